-- What the arrays hold while a term is read: the nodes up to a place, the names of the abstractions around it, and the applications whose
-- left part is not at its end. Letters: f is the count of free names, p a place, t a term, ns are nodes; ts are tags, ms arguments, xs the
-- names by depth, ys the open applications.
use Rattle.std.specs.Prelude.{ℕ, suc, ◌+◌, ◌-◌, ◌≤◌, ◌<◌, ◌≡◌, cond, List, [], ◌∷◌, ◌++◌, map, ltb, length, get_or, take}
use Rattle.fireball.specs.Term.{Term, size}
use Rattle.termfile.specs.Nodes.{Node, write}
use Rattle.termfile.specs.Canonical.{binders, naming}
use Rattle.binary.specs.Stacks.{Stacked}
use Rattle.binary.specs.Reading.{Place, whole, body, left, right, depth}
use Rattle.importing.specs.declared.placing.Spot.{Spot}
use Rattle.importing.specs.declared.placing.Scratch.{Scratch}

-- the name that the next abstraction binds
abbrev pub next_name : ℕ → Place → ℕ
next_name f whole = f
next_name f (body p) = suc (next_name f p)
next_name f (left p) = next_name f p
next_name f (right t p) = next_name f p + binders t

-- the names of the abstractions around a place, innermost first
abbrev pub around : ℕ → Place → List ℕ
around f whole = []
around f (body p) = next_name f p ∷ around f p
around f (left p) = around f p
around f (right t p) = around f p

-- the nodes of a term that stands at a place
abbrev pub nodes_of : ℕ → Place → Term → List Node
nodes_of f p t = write (naming (next_name f p) (around f p) t)

-- the nodes before a place. An application has its left part's size as argument once that part has been read; until then it has the number
-- of the abstractions around it
abbrev pub nodes_to : ℕ → Place → List Node
nodes_to f whole = []
nodes_to f (body p) = nodes_to f p ++ (record { tag = 1; argument = next_name f p } ∷ [])
nodes_to f (left p) = nodes_to f p ++ (record { tag = 2; argument = depth p } ∷ [])
nodes_to f (right t p) = nodes_to f p ++ (record { tag = 2; argument = size t } ∷ nodes_of f p t)

-- where the applications stand whose left part is not at its end, innermost first
abbrev pub open_at : ℕ → Place → List ℕ
open_at f whole = []
open_at f (body p) = open_at f p
open_at f (left p) = length (nodes_to f p) ∷ open_at f p
open_at f (right t p) = open_at f p

-- the arrays hold the nodes ns, which lead to the place p or to the end of a term there, and `name` is the next to be bound
pub record Holds (f : ℕ) (p : Place) (ns : List Node) (name : ℕ) (st : Spot) (ts ms xs ys : List ℕ) : Type 0 where
  pub count : st.nodes ≡ length ns
  pub tags_are : take st.nodes ts ≡ map (λ n. n.tag) ns
  pub arguments_are : take st.nodes ms ≡ map (λ n. n.argument) ns
  pub depth_is : st.depth ≡ length (around f p)
  pub names_are : Stacked xs (around f p)
  pub open_is : st.pending ≡ length (open_at f p)
  pub open_are : Stacked ys (open_at f p)
  pub name_is : st.name ≡ name

-- nothing of the term at the place p has been read
abbrev pub Before : {N : ℕ} → ℕ → Place → Spot → Scratch N → Type 0
Before f p st r = Holds f p (nodes_to f p) (next_name f p) st r.tags r.args r.names r.apps

-- the term t at the place p has been read
abbrev pub After : {N : ℕ} → ℕ → Place → Term → Spot → Scratch N → Type 0
After f p t st r = Holds f p (nodes_to f p ++ nodes_of f p t) (next_name f p + binders t) st r.tags r.args r.names r.apps

-- there is room for one more node in arrays for so many, and the numbers are of 16 bits
pub record Ready (st : Spot) (room : ℕ) : Type 0 where
  pub fits : st.nodes < room
  pub few_nodes : st.nodes < 32768
  pub few_deep : st.depth ≤ st.nodes
  pub few_open : st.pending ≤ st.nodes
  pub few_names : st.name ≤ 32768

-- the name of the variable with the index k, where the names of the abstractions around it stand in xs by depth
abbrev pub name_of : List ℕ → ℕ → ℕ → ℕ
name_of xs m k = cond (ltb k m) (get_or xs (m - 1 - k) 0) (k - m)

-- an application is open, and it is one of the nodes
pub record Closable {N : ℕ} (st : Spot) (r : Scratch N) : Type 0 where
  pub some_open : 1 ≤ st.pending
  pub open_fit : st.pending ≤ N
  pub application : get_or r.apps (st.pending - 1) 0 < st.nodes
  pub nodes_fit : st.nodes ≤ N
  pub few_nodes : st.nodes ≤ 32768
