-- The empty prelude gives what the term file alone gives.
use Rattle.embed.proofs.Embeds.{embeds-alone}
use Rattle.embed.proofs.glow_evaluate.Goals as goal

pub returns : goal.returns
returns c =
    embeds-alone c.args.machine c.args.file.now c.args.budget c.glow_evaluate_with.result _ _ _ _ c.glow_evaluate_with.ensures
