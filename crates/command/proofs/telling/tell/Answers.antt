-- The arrays have glow's lengths, and what is rendered after the call is the call's text.
use Rattle.command.proofs.Tellings.{zeros, tells}
use Rattle.command.proofs.telling.tell.Goals as goal

pub returns : goal.returns
returns c =
    tells
    (record {
      tags = zeros 16384;
      arguments = zeros 16384;
      codes = zeros 16384;
      owns = zeros 16384;
      nexts = zeros 16384;
      places = zeros 32768;
      renumber = zeros 32768;
      output_tags = zeros 16384;
      output_arguments = zeros 16384;
    })
    c.evaluate-answer.ensures.called c.render.ensures
