-- The bytes of a prelude, and the refusals 17 to 19. Letters: p are the bytes of a prelude, d is its count of definitions, s are those of one
-- definition or of what is left of a prelude, ss those of several definitions, k is a definition's place, f the term's count of free names.
use Rattle.std.specs.Prelude.{ℕ, zero, suc, ◌+◌, ◌*◌, Bool, true, false, cond, ◌&&◌, List, [], ◌∷◌, map, eqb, leb, length, get_or, take, drop}
use Rattle.std.proofs.Math.Option.{Option, none, some}
use Rattle.termfile.specs.Code.{Code, var, abs, app}
use Rattle.termfile.specs.File.{word, free_names, node_count, tags, code_of, file_code, holds, unless, refusal, count}
use Rattle.prelude.specs.declared.Sums.{Sums}

-- 02, request 6: "A prelude is a 16-bit count d, then d term files"
abbrev pub definition_count : List ℕ → ℕ
definition_count p = word (get_or p 0 0) (get_or p 1 0)

-- "Each definition takes 4 + 3 times its own n bytes, whatever its n says": the definition that s begins with
abbrev pub file_length : List ℕ → ℕ
file_length s = 4 + 3 * node_count s

abbrev pub prepend : List ℕ → Option (List (List ℕ)) → Option (List (List ℕ))
prepend s none = none
prepend s (some ss) = some (s ∷ ss)

-- the d definitions that the bytes are, one after the other; none where "bytes left over or missing"
abbrev pub cut : ℕ → List ℕ → Option (List (List ℕ))
cut zero [] = some []
cut zero (b ∷ s) = none
cut (suc d) s =
    cond (leb (file_length s) (length s)) (prepend (take (file_length s) s) (cut d (drop (file_length s) s))) none

abbrev pub files : List ℕ → Option (List (List ℕ))
files p = cut (definition_count p) (drop 2 p)

abbrev pub are_cut : Option (List (List ℕ)) → Bool
are_cut none = false
are_cut (some ss) = true

abbrev pub listed : Option (List (List ℕ)) → List (List ℕ)
listed none = []
listed (some ss) = ss

-- the definitions of a prelude as files, and as codes: definition k is that at place k. A prelude that is refused by 17 may have none
abbrev pub definition_files : List ℕ → List (List ℕ)
definition_files p = listed (files p)

abbrev pub definitions : List ℕ → List Code
definitions p = map file_code (definition_files p)

-- 02, request 6, "Checks": what has to hold for 17 to 19 not to refuse a prelude
-- 17: "d above the term's f or bytes left over or missing"; a count of which bytes are missing too
abbrev pub whole_for : ℕ → List ℕ → Bool
whole_for f p = leb 2 (length p) && (leb (definition_count p) f && are_cut (files p))

-- a refusal, where there is one, and else the tests after it
abbrev pub or_else : Option ℕ → Option ℕ → Option ℕ
or_else (some k) rest = some k
or_else none rest = rest

-- "refusals 2 and 4 to 7 of each definition in turn"; 1 and 3 are of a length that no definition has here
abbrev pub each_refusal : List (List ℕ) → Option ℕ
each_refusal [] = none
each_refusal (s ∷ ss) = or_else (refusal s) (each_refusal ss)

-- 18: "a definition that is not an abstraction"
abbrev pub is_abstraction : Code → Bool
is_abstraction (var x) = false
is_abstraction (abs x c) = true
is_abstraction (app c d) = false

abbrev pub all_abstractions : List (List ℕ) → Bool
all_abstractions [] = true
all_abstractions (s ∷ ss) = holds is_abstraction (code_of s) && all_abstractions ss

-- 19: "an f field that is not the definition's place"; the first place here is k
abbrev pub in_place : ℕ → List (List ℕ) → Bool
in_place k [] = true
in_place k (s ∷ ss) = eqb (free_names s) k && in_place (suc k) ss

-- "17 .., 18 .., and 19 .. in this order, refusals 2 and 4 to 7 of each definition in turn coming between 17 and 18"
unfoldable pub prelude_refusal : ℕ → List ℕ → Option ℕ
prelude_refusal f p =
    unless (whole_for f p) 17
    (or_else (each_refusal (definition_files p))
    (unless (all_abstractions (definition_files p)) 18
    (unless (in_place 0 (definition_files p)) 19
    none)))

-- "follow the term file's refusals": the refusal of a term file s that is handed over with the prelude p
abbrev pub refusal_with : List ℕ → List ℕ → Option ℕ
refusal_with p s = or_else (refusal s) (prelude_refusal (free_names s) p)

abbrev pub total : {A : Type 0} → (A → ℕ) → List A → ℕ
total w [] = 0
total w (a ∷ l) = w a + total w l

-- "V and A become sums over term and definitions", and "loading takes their nodes and binder names too": what the definitions add
abbrev pub sums : List (List ℕ) → Sums
sums ss =
    record {
      definitions = length ss;
      nodes = total node_count ss;
      abstractions = total (λ s. count 1 (tags s)) ss;
      variables = total (λ s. count 0 (tags s)) ss;
      applications = total (λ s. count 2 (tags s)) ss;
    }
