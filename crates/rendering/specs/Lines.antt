-- The lines that tell an answer, as bytes of ASCII: 01, Runs worked through, what glow prints.
-- Letters: r is a report, ns the nodes of the normal form, g is what the bytes of a call give, st the stores' lengths.
use Rattle.std.specs.Prelude.{ℕ, zero, suc, ◌+◌, List, [], ◌∷◌, ◌++◌, map}
use Prim.Native.Char.{code}
use Prim.Native.String.{String, [] as nothing, ◌∷◌ as ◌then◌}
use Rattle.termfile.specs.Nodes.{Node}
use Rattle.machine.specs.declared.Machine.{Machine}
use Rattle.machine.specs.Run.{Stores}
use Rattle.machine.specs.Answer.{Given, Outcome, normal, spent, refused, Report, Answer, number_alone, report, answer, written}
use Rattle.rendering.specs.Decimal.{decimal}

-- the codes of a text's characters
abbrev pub ascii : String → List ℕ
ascii nothing = []
ascii (c then s) = code c ∷ ascii s

-- words, each with a space before it
abbrev pub spaced : List (List ℕ) → List ℕ
spaced [] = []
spaced (w ∷ ws) = code " " ∷ (w ++ spaced ws)

-- a line: a word and those after it, parted by one space, and a newline
abbrev pub line : List ℕ → List (List ℕ) → List ℕ
line w ws = w ++ spaced ws ++ (code "\n" ∷ [])

-- "Refusals 1 to 7 print only `refused` and the number"
abbrev pub refused_line : ℕ → List ℕ
refused_line k = line (ascii "refused") (decimal k ∷ [])

-- "Spent prints `spent`"; "8 to 13 print that line in place of `normal`", where 02, request 3, takes 13 out
abbrev pub outcome_line : Outcome → List ℕ
outcome_line (normal n) = line (ascii "normal") []
outcome_line spent = line (ascii "spent") []
outcome_line (refused k) = refused_line k

-- a count, as `beta 2`
abbrev pub count_line : List ℕ → ℕ → List ℕ
count_line w n = line w (decimal n ∷ [])

-- a count and its allowance, as `subst 2 of 12`: "The number after `of` is the allowance"
abbrev pub allowed_line : List ℕ → ℕ → ℕ → List ℕ
allowed_line w n a = line w (decimal n ∷ ascii "of" ∷ decimal a ∷ [])

-- "`leave` has leave-fun, then leave-inert"
abbrev pub leave_line : ℕ → ℕ → List ℕ
leave_line f i = line (ascii "leave") (decimal f ∷ decimal i ∷ [])

-- "`store` has nodes, cells, names in use"
abbrev pub store_line : ℕ → ℕ → ℕ → List ℕ
store_line n c m = line (ascii "store") (decimal n ∷ decimal c ∷ decimal m ∷ [])

-- "`shift` adds enter and both"
abbrev pub shift_sum : Report → ℕ
shift_sum r = r.enter + (r.leave_fun + r.leave_inert)

-- the lines between the outcome's and the term's, in the order in which 01 prints them
unfoldable pub count_lines : Report → List ℕ
count_lines r =
    count_line (ascii "beta") r.beta ++ allowed_line (ascii "subst") r.subst r.subst_allowance ++ count_line (ascii "enter") r.enter
    ++ leave_line r.leave_fun r.leave_inert ++ allowed_line (ascii "shift") (shift_sum r) r.shift_allowance
    ++ store_line r.nodes r.cells r.names

-- 01, The term file: "terms are written as v, l or a with the argument in decimal"
abbrev pub letter : ℕ → ℕ
letter zero = code "v"
letter (suc zero) = code "l"
letter (suc (suc t)) = code "a"

-- a node, as `v0`
abbrev pub node_word : Node → List ℕ
node_word n = letter n.tag ∷ decimal n.argument

-- "no term line" where the run does not end with a normal form
abbrev pub term_line : Outcome → List Node → List ℕ
term_line (normal n) ns = line (ascii "term") (map node_word ns)
term_line spent ns = []
term_line (refused k) ns = []

-- all lines of an answer: of 1 to 7 the number alone; else the outcome's line, "then all but the term line", and at normal that one too
abbrev pub lines : Answer → List Node → List ℕ
lines (number_alone k) ns = refused_line k
lines (report r) ns = outcome_line r.outcome ++ count_lines r ++ term_line r.outcome ns

-- the text of a call
unfoldable pub text_of : Machine → Given → ℕ → Stores → List ℕ
text_of M g budget st = lines (answer M g budget st) (written M g budget st)
