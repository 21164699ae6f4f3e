-- What is still to be read behind a cursor, and what the functions that read from there are held to.
-- Letters: s are bytes, c is a cursor, f the count of free names, p a place, n the nodes read before.
use Rattle.std.specs.Prelude.{ℕ, suc, ◌+◌, ◌*◌, ◌≤◌, ◌≡◌, Bool, true, false, List, [], ◌∷◌, ◌++◌, ltb, length, drop, replicate, Option, None, Some}
use Rattle.termfile.specs.File.{max_nodes}
use Rattle.binary.specs.Bits.{low_bits, bits_in}
use Rattle.binary.specs.Reading.{Place, body, left, depth, Begun, nothing, ones, Reading, unread, within, reading}
use Rattle.importing.specs.declared.cursor.Cursor.{Cursor}
use Rattle.importing.specs.declared.node.Node.{Node}
use Rattle.importing.specs.declared.node.Node.TheVariants.{Abstraction, Application, Variable}

-- the bits that are left of the byte at hand, and those of the bytes behind it
abbrev pub ahead : List ℕ → Cursor → List Bool
ahead s c = low_bits c.left c.byte ++ bits_in (drop c.at s)

-- the bits ahead, where the first of them is known
abbrev pub taken : List ℕ → Option (Bool × Cursor) → List Bool
taken s None = []
taken s (Some (b, c)) = b ∷ ahead s c

-- the bits ahead are k of a byte x, at least one, and those of the bytes from `at` on
pub record BeginsAt (s : List ℕ) (c : Cursor) (at x k : ℕ) : Type 0 where
  pub some_left : 1 ≤ k
  pub few_left : k ≤ 8
  pub ahead_is : ahead s c ≡ low_bits k x ++ bits_in (drop at s)
  pub forth : c.at ≤ at
  pub far : 8 * at + c.left ≡ 8 * c.at + k

-- or there are none
abbrev pub Begins : List ℕ → Cursor → Option (ℕ × ℕ × ℕ) → Type 0
Begins s c None = ahead s c ≡ []
Begins s c (Some (at, x, k)) = BeginsAt s c at x k

-- the cursor d is k bits behind c
pub record Behind (c : Cursor) (k : ℕ) (d : Cursor) : Type 0 where
  pub forth : c.at ≤ d.at
  pub far : 8 * d.at + c.left ≡ 8 * c.at + d.left + k

-- the cursor behind a bit is one bit further
abbrev pub Bitwise : Cursor → Option (Bool × Cursor) → Type 0
Bitwise c None = Unit {0}
Bitwise c (Some (b, d)) = Behind c 1 d

-- ones up to the end, or k of them up to a zero
abbrev pub Run : List ℕ → Cursor → Option Cursor → Type 0
Run s c None = (k : ℕ) × (ahead s c ≡ replicate k true)
Run s c (Some d) = (k : ℕ) × (ahead s c ≡ replicate k true ++ (false ∷ ahead s d)) × Behind c (k + 1) d

-- no index that is in range is as large: there are at most 16,384 abstractions around, and as many free names
abbrev pub far_index : ℕ
far_index = 65535

-- what reading comes to where the next node is known, with the cursor behind it
abbrev pub read_behind : List ℕ → ℕ → Place → ℕ → Node → Cursor → Reading
read_behind s f p n Abstraction c = within (ltb n max_nodes) (reading f nothing (body p) (suc n) (ahead s c))
read_behind s f p n Application c = within (ltb n max_nodes) (reading f nothing (left p) (suc n) (ahead s c))
read_behind s f p n (Variable k) c = reading f (ones k) p n (false ∷ ahead s c)

-- or that the bits end before its end
abbrev pub node_read : List ℕ → ℕ → Place → ℕ → Option (Node × Cursor) → Reading
node_read s f p n None = unread 14
node_read s f p n (Some (r, c)) = read_behind s f p n r c

-- at least j bits have been taken where a node ends
abbrev pub Shorter : ℕ → List ℕ → Cursor → Option (Node × Cursor) → Type 0
Shorter j s c None = Unit {0}
Shorter j s c (Some (r, d)) = length (ahead s d) + j ≤ length (ahead s c)

-- r is what follows on the beginning b of a node, at the cursor c: reading goes on as behind it, wherever the term stands
pub record NodeAt (b : Begun) (j : ℕ) (s : List ℕ) (c : Cursor) (r : Option (Node × Cursor)) : Type 0 where
  pub goes_on : (f : ℕ) (p : Place) (n : ℕ) → depth p + f ≤ far_index → reading f b p n (ahead s c) ≡ node_read s f p n r
  pub shorter : Shorter j s c r
