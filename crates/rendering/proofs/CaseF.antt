-- 01, Runs worked through: "For case f's file, 31 bytes, it prints exactly" these eight lines. They are computed from the definitions, with
-- glow's budget and stores.
-- Assumes nothing.
use mathlib.Core.Path.{◌≡◌, refl}
use Rattle.termfile.specs.File.{refusal}
use Rattle.machine.specs.declared.Machine.TheVariants.{First}
use Rattle.machine.specs.Glow.{million, glow}
use Rattle.machine.specs.Answer.{file_given}
use Rattle.machine.proofs.Cases.{file-f}
use Rattle.rendering.specs.Decimal.{decimal}
use Rattle.rendering.specs.Lines.{ascii, count_lines, text_of}

pub case-f-text : text_of First (file_given file-f) million glow
    ≡ ascii "normal\nbeta 2\nsubst 2 of 12\nenter 3\nleave 2 1\nshift 6 of 18\nstore 13 3 5\nterm a1 v0 l1 v1\n"
unfolding refusal decimal count_lines text_of
case-f-text = refl
