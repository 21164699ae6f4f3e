-- Refusal 5 told from sizes: the sizes of codes that stand one after the other, and what a node read leaves of them. The idea: whether a
-- node joins the codes behind it depends only on their sizes, and the second code's size stands where the first code ends. Letters: t is
-- a tag, m an argument, zs are sizes.
-- Assumes nothing.
use Prim.Native.Nat.{ℕ, zero, suc, ◌+◌, ◌-◌, ◌≤◌, ◌<◌}
use mathlib.Core.Path.{◌≡◌, refl, sym, ap, ap₂, ◌∙◌}
use mathlib.Core.Bool.{Bool, true, false, cond}
use mathlib.Core.List.{List, [], ◌∷◌, append_assoc}
use mathlib.Core.Option.{Option, none, some}
use native.Mathlib.Omega.{arith}
use lib.Dec.{eqb}
use lib.ListN.{length, get_or, take, drop, set, length-append, length-drop, drop_of_length-le}
use lib.Seq.{get_or-append-add, length-take-le, get_or-take}
use borrow.Author.Tests.{eq-eqb, ne_eqb}
use Rattle.termfile.specs.Code.{Code, var, abs, app, size}
use Rattle.termfile.specs.Nodes.{Node, read_node, and_then, forest, single, read}
use Rattle.termfile.specs.File.{holds}
use Rattle.termfile.specs.Passes.{sizes_in, sizes_of, joined}
use Rattle.std.specs.Prelude.{Some, None}
use Rattle.termfile.proofs.Reading.{forest-none, size-pos}
use Rattle.termfile.proofs.Sets.{drop-set}

pub length-sizes_in : (c : Code) → length (sizes_in c) ≡ size c
length-sizes_in (var x) = refl
length-sizes_in (abs x c) = omega (arith, length-sizes_in c)
length-sizes_in (app c d) = omega (arith, length-sizes_in c, length-sizes_in d, length-append (sizes_in c) (sizes_in d))

length-sizes_of : (c : Code) (cs : List Code) → length (sizes_of (c ∷ cs)) ≡ size c + length (sizes_of cs)
length-sizes_of c cs = omega (arith, length-append (sizes_in c) (sizes_of cs), length-sizes_in c)

-- the second code's size stands where the first code ends
get_or-sizes_of : (c d : Code) (cs : List Code) (m : ℕ) → m ≡ size c → get_or (sizes_of (c ∷ d ∷ cs)) m 0 ≡ size d
get_or-sizes_of c d cs m e =
    ap (λ (k : ℕ). get_or (sizes_of (c ∷ d ∷ cs)) k 0) at_end ∙ get_or-append-add (sizes_in c) (sizes_of (d ∷ cs)) 0 0
  where
    at_end : m ≡ length (sizes_in c) + 0
    at_end = omega (arith, length-sizes_in c)

-- What a node makes of the codes cs behind it, told from their sizes zs alone: where an application joins two codes, and where it has no second one.
module _ (t m : ℕ) (zs : List ℕ) (cs : List Code) (e : zs ≡ sizes_of cs) where
  pub join-application : t ≡ 2 → m < length zs → get_or zs 0 0 ≡ m → Some (1 + m + get_or zs m 0) ≡ joined (read_node t m cs)
  join-application k h q = rw (k, e) (go cs (rw e at h) (rw e at q))
    where
      go : (cs : List Code) → m < length (sizes_of cs) → get_or (sizes_of cs) 0 0 ≡ m → Some (1 + m + get_or (sizes_of cs) m 0) ≡ joined (read_node 2 m cs)
      go [] h q = absurd (omega arith)
      go (c ∷ []) h q = absurd (omega (arith, length-sizes_of c []))
      go (c ∷ d ∷ cs) h q = rw (eq-eqb m (size c) (sym q)) (ap Some (omega (arith, get_or-sizes_of c d cs m (sym q))))

  pub join-no-right : t ≡ 2 → length zs ≤ m → None ≡ joined (read_node t m cs)
  join-no-right k h = rw k (go cs (rw e at h))
    where
      go : (cs : List Code) → length (sizes_of cs) ≤ m → None ≡ joined (read_node 2 m cs)
      go [] h = refl
      go (c ∷ []) h = refl
      go (c ∷ d ∷ cs) h = rw (ne_eqb m (size c) (λ q. omega (arith, length-sizes_of c (d ∷ cs), length-sizes_of d cs, size-pos d)))

-- a node list that reads as codes, with the sizes of them and of their subterms
pub record Reads (ns : List Node) (zs : List ℕ) : Type 0 where
  pub codes : List Code
  pub whole : forest ns ≡ some codes
  pub sized : zs ≡ sizes_of codes

size-broken : {k : ℕ} → Some k ≡ None → ⊥
size-broken e = let z : ◌≡◌ {A = ℕ} 0 1 = cc in omega arith

size_same : {k l : ℕ} → Some k ≡ Some l → k ≡ l
size_same e = cc

-- a node that joins puts its size in front of the sizes behind it
joined-sizes : (t m k : ℕ) (cs : List Code) → Some k ≡ joined (read_node t m cs) → (ds : List Code) × (read_node t m cs ≡ some ds) × (k ∷ sizes_of cs ≡ sizes_of ds)
joined-sizes zero m k cs e = (var m ∷ cs, refl, ap (λ (z : ℕ). z ∷ sizes_of cs) (size_same e))
joined-sizes (suc zero) m k [] e = absurd (size-broken e)
joined-sizes (suc zero) m k (c ∷ cs) e = (abs m c ∷ cs, refl, ap (λ (z : ℕ). z ∷ sizes_of (c ∷ cs)) (size_same e))
joined-sizes (suc (suc zero)) m k [] e = absurd (size-broken e)
joined-sizes (suc (suc zero)) m k (c ∷ []) e = absurd (size-broken e)
joined-sizes (suc (suc zero)) m k (c ∷ d ∷ cs) e = go (eqb m (size c)) e
  where
    go : (q : Bool) → Some k ≡ joined (cond q (some (app c d ∷ cs)) none)
        → (ds : List Code) × (cond q (some (app c d ∷ cs)) none ≡ some ds) × (k ∷ sizes_of (c ∷ d ∷ cs) ≡ sizes_of ds)
    go true p = (app c d ∷ cs, refl, ap₂ (λ (z : ℕ) (zs : List ℕ). z ∷ zs) (size_same p) (sym (append_assoc (sizes_in c) (sizes_in d) (sizes_of cs))))
    go false p = absurd (size-broken p)
joined-sizes (suc (suc (suc t))) m k cs e = absurd (size-broken e)

-- a node that does not join leaves nothing
joined-none : (t m : ℕ) (cs : List Code) → None ≡ joined (read_node t m cs) → read_node t m cs ≡ none
joined-none zero m cs e = absurd (size-broken (sym e))
joined-none (suc zero) m [] e = refl
joined-none (suc zero) m (c ∷ cs) e = absurd (size-broken (sym e))
joined-none (suc (suc zero)) m [] e = refl
joined-none (suc (suc zero)) m (c ∷ []) e = refl
joined-none (suc (suc zero)) m (c ∷ d ∷ cs) e = go (eqb m (size c)) e
  where
    go : (q : Bool) → None ≡ joined (cond q (some (app c d ∷ cs)) none) → cond q (some (app c d ∷ cs)) none ≡ none
    go true p = absurd (size-broken (sym p))
    go false p = refl
joined-none (suc (suc (suc t))) m cs e = refl

-- a store in front of a part
part-set : (l : List ℕ) (j n k : ℕ) → j < n → n ≤ length l → take (n - j) (drop j (set l j k)) ≡ k ∷ take (n - suc j) (drop (suc j) l)
part-set l j n k h h' = ap₂ (λ (a : ℕ) (b : List ℕ). take a b) longer (drop-set l j k (omega arith))
  where
    longer : n - j ≡ suc (n - suc j)
    longer = omega arith

-- the first code's size is at most the number of nodes
pub reads_first : {ns : List Node} {zs : List ℕ} → Reads ns zs → get_or zs 0 0 ≤ length zs
reads_first {ns} {zs} r = rw r.sized (go r.codes)
  where
    go : (cs : List Code) → get_or (sizes_of cs) 0 0 ≤ length (sizes_of cs)
    go [] = omega arith
    go (c ∷ cs) = omega (arith, length-sizes_of c cs)

module _ (ns : List Node) {n : ℕ} (sizes : List ℕ) (long : n ≤ length sizes) (i : ℕ) (some_left : 0 < i) (within : i ≤ n)
    (r : Reads (drop i ns) (take (n - i) (drop i sizes))) (t m : ℕ) (node : drop (i - 1) ns ≡ record { tag = t; argument = m } ∷ drop i ns) where
  index : suc (i - 1) ≡ i
  index = omega arith

  one_more : forest (drop (i - 1) ns) ≡ read_node t m r.codes
  one_more = ap forest node ∙ ap (λ (o : Option (List Code)). and_then o (read_node t m)) r.whole

  front : (k : ℕ) → take (n - (i - 1)) (drop (i - 1) (set sizes (i - 1) k)) ≡ k ∷ take (n - i) (drop i sizes)
  front k = part-set sizes (i - 1) n k (omega arith) long ∙ ap (λ (j : ℕ). k ∷ take (n - j) (drop j sizes)) index

  length_part : length (take (n - i) (drop i sizes)) ≡ n - i
  length_part = length-take-le (n - i) (drop i sizes) (simp length-drop (omega arith))

  -- a turn of the loop of `is_term` that goes on
  pub reads_more : (k : ℕ) → Some k ≡ joined (read_node t m r.codes) → Reads (drop (i - 1) ns) (take (n - (i - 1)) (drop (i - 1) (set sizes (i - 1) k)))
  reads_more k e =
      let more = joined-sizes t m k r.codes e in
      record {
        codes = more.0;
        whole = one_more ∙ more.1;
        sized = front k ∙ ap (λ (zs : List ℕ). k ∷ zs) r.sized ∙ more.2;
      }

  -- the size that it stores is at most the number of nodes
  pub size-within : (k : ℕ) → Some k ≡ joined (read_node t m r.codes) → k ≤ n
  size-within k e = omega (arith, rw (front k) at (reads_first (reads_more k e)), length_part)

  -- one that does not
  pub reads_none : None ≡ joined (read_node t m r.codes) → forest ns ≡ none
  reads_none e = forest-none ns (i - 1) (one_more ∙ joined-none t m r.codes e)

-- the nodes are a code where its size is the number of nodes
pub reads-single : {ns : List Node} {zs : List ℕ} {n : ℕ} → Reads ns zs → length zs ≡ n → 1 ≤ n → eqb (get_or zs 0 0) n ≡ holds (λ c. true) (read ns)
reads-single {ns} {zs} {n} r e h = rw (r.whole, r.sized) (go r.codes (rw r.sized at e))
  where
    go : (cs : List Code) → length (sizes_of cs) ≡ n → eqb (get_or (sizes_of cs) 0 0) n ≡ holds (λ c. true) (single (some cs))
    go [] p = absurd (omega arith)
    go (c ∷ []) p = eq-eqb (size c) n (omega (arith, length-sizes_of c []))
    go (c ∷ d ∷ cs) p = ne_eqb (size c) n (λ q. omega (arith, length-sizes_of c (d ∷ cs), length-sizes_of d cs, size-pos d))

-- where the loop of `is_term` starts, behind the last node
pub reads-start : (ns : List Node) {n : ℕ} → length ns ≡ n → (sizes : List ℕ) → Reads (drop n ns) (take (n - n) (drop n sizes))
reads-start ns {n} many sizes =
    record {
      codes = [];
      whole = ap forest (drop_of_length-le ns past);
      sized = ap (λ (k : ℕ). take k (drop n sizes)) nothing;
    }
  where
    past : length ns ≤ n
    past = omega arith

    nothing : n - n ≡ 0
    nothing = omega arith

-- and where it ends: before the first node, or where a node does not join
pub reads_all : (ns : List Node) {n : ℕ} → 1 ≤ n → (sizes : List ℕ) → n ≤ length sizes → (i : ℕ) → i ≤ 0
    → Reads (drop i ns) (take (n - i) (drop i sizes)) → eqb (get_or sizes 0 0) n ≡ holds (λ c. true) (read ns)
reads_all ns {n} least sizes long zero h r =
    ap (λ (k : ℕ). eqb k n) (sym (get_or-take n sizes 0 0 (omega arith)))
    ∙ reads-single whole (length-take-le n sizes long) least
  where
    count : n ≡ n - 0
    count = omega arith

    whole : Reads ns (take n sizes)
    whole = record { codes = r.codes; whole = r.whole; sized = ap (λ (k : ℕ). take k sizes) count ∙ r.sized }
reads_all ns least sizes long (suc i) h r = absurd (omega arith)

pub reads-broken : (ns : List Node) → forest ns ≡ none → false ≡ holds (λ c. true) (read ns)
reads-broken ns e = rw e
