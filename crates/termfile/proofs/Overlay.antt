-- An array over which new elements are laid: it begins with them, and behind them it is as it was.
-- Assumes nothing.
use Prim.Native.Nat.{ℕ}
use mathlib.Core.Path.{◌≡◌, ap, ◌∙◌}
use mathlib.Core.List.{List}
use lib.ListN.{length, take, drop}
use lib.Seq.{take_at, drop_at}
use Rattle.termfile.specs.Output.{overlay}

module _ (new old : List ℕ) (n : ℕ) (e : length new ≡ n) where
  pub overlay-take : take n (overlay new old) ≡ new
  overlay-take = take_at new (drop (length new) old) n e

  pub overlay-drop : drop n (overlay new old) ≡ drop n old
  overlay-drop = drop_at new (drop (length new) old) n e ∙ ap (λ k. drop k old) e
