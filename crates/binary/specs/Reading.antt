-- Reading a term from bits, bit by bit: the term, or the first of the refusals 14 and 16.
-- Letters: f is the count of free names, p the place of the term that is being read, n the nodes read before this one, k an index.
use Rattle.std.specs.Prelude.{ℕ, suc, ◌+◌, ◌-◌, Bool, true, false, cond, ◌&&◌, List, [], ◌∷◌, ltb}
use Rattle.fireball.specs.Term.{Term, free, bound, lam, app}
use Rattle.termfile.specs.File.{max_nodes}

-- where a term stands in the whole, with the terms that are read already: it is the whole, the body of an abstraction, the left part of
-- an application, or its right part where t is the left one
pub data Place : Type 0 where
  whole : Place
  body : Place → Place
  left : Place → Place
  right : (t : Term) → Place → Place

-- the abstractions around a place
abbrev pub depth : Place → ℕ
depth whole = 0
depth (body p) = suc (depth p)
depth (left p) = depth p
depth (right t p) = depth p

-- what a term that has been read to its end leads to: it ends the whole, or a right part is next
pub data Next : Type 0 where
  done : Term → Next
  part : Place → Next

abbrev pub ended : Place → Term → Next
ended whole t = done t
ended (body p) t = ended p (lam t)
ended (left p) t = part (right t p)
ended (right t p) u = ended p (app t u)

-- 02, request 1: the variable with the index k under m abstractions, "and k at least m it is free name k - m"
abbrev pub variable : ℕ → ℕ → Term
variable m k = cond (ltb k m) (bound k) (free (k - m))

-- what has been read of a node: nothing, a zero, or k + 1 ones
pub data Begun : Type 0 where
  nothing : Begun
  a_zero : Begun
  ones : ℕ → Begun

-- a term and the bits behind it, or the number of a refusal
pub data Reading : Type 0 where
  unread : ℕ → Reading
  read : Term → List Bool → Reading

-- "16, a node beyond the node limit or a free index not below f, tested at the node's last bit"
abbrev pub within : Bool → Reading → Reading
within true r = r
within false r = unread 16

abbrev pub onward : Next → List Bool → (Place → Reading) → Reading
onward (done t) bs go = read t bs
onward (part p) bs go = go p

-- "14, the bits end inside a term or are none, and 16 .. come in bit order"
abbrev pub reading : ℕ → Begun → Place → ℕ → List Bool → Reading
reading f b p n [] = unread 14
reading f nothing p n (false ∷ bs) = reading f a_zero p n bs
reading f nothing p n (true ∷ bs) = reading f (ones 0) p n bs
reading f a_zero p n (false ∷ bs) = within (ltb n max_nodes) (reading f nothing (body p) (suc n) bs)
reading f a_zero p n (true ∷ bs) = within (ltb n max_nodes) (reading f nothing (left p) (suc n) bs)
reading f (ones k) p n (true ∷ bs) = reading f (ones (suc k)) p n bs
reading f (ones k) p n (false ∷ bs) =
    within (ltb n max_nodes && ltb k (depth p + f))
    (onward (ended p (variable (depth p) k)) bs (λ q. reading f nothing q (suc n) bs))
