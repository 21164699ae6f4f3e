-- What an array that is lent for a result holds afterwards.
use Rattle.std.specs.Prelude.{ℕ, List, ◌++◌, length, drop}

-- 01, Budget and stores: "Elements past the term are unchanged": what an array holds after new elements are written at its front
abbrev pub overlay : List ℕ → List ℕ → List ℕ
overlay new old = new ++ drop (length new) old
