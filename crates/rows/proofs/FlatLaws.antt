-- f of each entry, one entry at a time.
use mathlib.Core.Path.{◌≡◌, refl}
use mathlib.Core.List.{List, [], ◌∷◌, ◌++◌}
use Prim.Native.Nat.{ℕ}
use Rattle.theory.specs.Rows.{flat_map}

pub flat_cons : (f : ℕ → List ℕ) (x : ℕ) (l : List ℕ) → flat_map f (x ∷ l) ≡ f x ++ flat_map f l
unfolding flat_map
flat_cons f x l = refl

pub flat_none : (f : ℕ → List ℕ) → flat_map f [] ≡ []
unfolding flat_map
flat_none f = refl
