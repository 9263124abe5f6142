-- The list of choices: tests over it (`all_chosen`, `some_chosen`), it has nothing but choices (`below_inside`), and it has every choice (`below_choice`).
use mathlib.Core.Path.{◌≡◌, refl, sym, ◌∙◌, subst}
use mathlib.Core.Logic.{◌⊎◌, inl, inr, ◌↔◌}
use mathlib.Core.Bool.{Bool, true, false, ◌||◌}
use mathlib.Core.List.Memᴰ
use mathlib.Core.List.{List, [], ◌∷◌, ◌++◌, map, Memᴰ}
use Prim.Native.Nat.{ℕ, ◌<◌}
use lib.Dec.{eqb}
use Rattle.theory.specs.Sets.{Is, Set, ◌⊆◌, Mem, members}
use Rattle.theory.proofs.SetLaws.{bool_cases, clash, and_intro, and_left, and_right, or_cases, or_left, or_right, eq_is, is_eq, is_false}
use Rattle.cones.proofs.FactLaws.{members_mem}
use Rattle.choices.specs.Choices.{nobody, adding, choices, choices_below, all_of, any_of}

-- a test of every set of a list, and of some set of it
pub all_chosen : (test : Set → Bool) (l : List Set) → Is (all_of test l) ↔ ((c : Set) → Memᴰ c l → Is (test c))
unfolding all_of
all_chosen test [] = (λ p c m. absurd (Memᴰ.not-nil m), λ h. refl)
all_chosen test (x ∷ l) = let r = all_chosen test l in (
  λ p c m. first c (and_left (test x) _ p) (r.0 (and_right (test x) _ p) c) (Memᴰ.cases_cons m),
  λ h. and_intro (h x (Memᴰ.head refl)) (r.1 (λ c m. h c (Memᴰ.tail m))),
)
  where
    first : (c : Set) → Is (test x) → (Memᴰ c l → Is (test c)) → (c ≡ x) ⊎ Memᴰ c l → Is (test c)
    first c p rest (inl e) = subst (λ (z : Set). Is (test z)) (sym e) p
    first c p rest (inr m) = rest m

pub some_chosen : (test : Set → Bool) (l : List Set) → Is (any_of test l) ↔ ((c : Set) × Memᴰ c l × Is (test c))
unfolding any_of
some_chosen test [] = (λ p. clash refl (sym p), λ h. absurd (Memᴰ.not-nil h.1))
some_chosen test (x ∷ l) = (to (some_chosen test l), λ h. from (some_chosen test l) h (Memᴰ.cases_cons h.1))
  where
    to : Is (any_of test l) ↔ ((c : Set) × Memᴰ c l × Is (test c)) → Is (test x || any_of test l) → (c : Set) × Memᴰ c (x ∷ l) × Is (test c)
    to r p = go (or_cases (test x) _ p)
      where
        go : Is (test x) ⊎ Is (any_of test l) → (c : Set) × Memᴰ c (x ∷ l) × Is (test c)
        go (inl q) = (x, Memᴰ.head refl, q)
        go (inr q) = let h = r.0 q in (h.0, Memᴰ.tail h.1, h.2)

    from : Is (any_of test l) ↔ ((c : Set) × Memᴰ c l × Is (test c)) → (h : (c : Set) × Memᴰ c (x ∷ l) × Is (test c)) → (h.0 ≡ x) ⊎ Memᴰ h.0 l → Is (test x || any_of test l)
    from r h (inl e) = or_left (test x) _ (subst (λ (z : Set). Is (test z)) e h.2)
    from r h (inr k) = or_right (test x) _ (r.1 (h.0, k, h.2))

-- a choice of the list rules out numbers of the list alone
pub choice_inside : (l : List ℕ) (c : Set) → Memᴰ c (choices l) → (v : ℕ) → Is (c v) → Mem v l
unfolding choices
choice_inside [] c m v p = go (Memᴰ.cases_cons m)
  where
    go : (c ≡ nobody) ⊎ Memᴰ c [] → Mem v []
    go (inl e) = clash refl (sym (subst (λ (z : Set). Is (z v)) e p))
    go (inr k) = absurd (Memᴰ.not-nil k)
choice_inside (x ∷ l) c m v p = go (Memᴰ.append_cases (choices l) m) (choice_inside l)
  where
    go : Memᴰ c (choices l) ⊎ Memᴰ c (map (adding x) (choices l)) → ((d : Set) → Memᴰ d (choices l) → (v : ℕ) → Is (d v) → Mem v l) → Mem v (x ∷ l)
    go (inl k) rest = Memᴰ.tail (rest c k v p)
    go (inr k) rest = let r = Memᴰ.of_map (adding x) (choices l) k in by r.0 (or_cases (eqb x v) (r.0 v) (subst (λ (z : Set). Is (z v)) (sym r.2) p)) (rest r.0 r.1 v)
      where
        by : (d : Set) → Is (eqb x v) ⊎ Is (d v) → (Is (d v) → Mem v l) → Mem v (x ∷ l)
        by d (inl q) rest = Memᴰ.head (sym (eq_is x v q))
        by d (inr q) rest = Memᴰ.tail (rest q)

-- whatever set is chosen, a choice of the list agrees with it on the numbers of the list
choice_found : (l : List ℕ) (d : Set) → (c : Set) × Memᴰ c (choices l) × ((v : ℕ) → Mem v l → c v ≡ d v)
unfolding choices
choice_found [] d = (nobody, Memᴰ.head refl, λ v m. absurd (Memᴰ.not-nil m))
choice_found (x ∷ l) d = go (bool_cases (d x)) (choice_found l d)
  where
    go : (d x ≡ true) ⊎ (d x ≡ false) → (c : Set) × Memᴰ c (choices l) × ((v : ℕ) → Mem v l → c v ≡ d v)
        → (c : Set) × Memᴰ c (choices l ++ map (adding x) (choices l)) × ((v : ℕ) → Mem v (x ∷ l) → c v ≡ d v)
    go (inl p) r = (adding x r.0, Memᴰ.append_right (choices l) (Memᴰ.map (adding x) r.1), λ v m. same v (bool_cases (eqb x v)) (Memᴰ.cases_cons m))
      where
        same : (v : ℕ) → (eqb x v ≡ true) ⊎ (eqb x v ≡ false) → (v ≡ x) ⊎ Mem v l → eqb x v || r.0 v ≡ d v
        same v (inl e) m = or_left _ _ e ∙ sym (subst (λ (z : ℕ). Is (d z)) (eq_is x v e) p)
        same v (inr e) (inl i) = clash (is_eq x v (sym i)) e
        same v (inr e) (inr k) = rw e (r.2 v k)
    go (inr p) r = (r.0, Memᴰ.append_left _ r.1, λ v m. same v (Memᴰ.cases_cons m))
      where
        at_x : r.0 x ≡ d x
        at_x = is_false (r.0 x) (λ q. clash (sym (r.2 x (choice_inside l r.0 r.1 x q)) ∙ q) p) ∙ sym p

        same : (v : ℕ) → (v ≡ x) ⊎ Mem v l → r.0 v ≡ d v
        same v (inl e) = subst (λ (z : ℕ). r.0 z ≡ d z) (sym e) at_x
        same v (inr k) = r.2 v k

-- the same below a bound
pub below_inside : (n : ℕ) (undecided c : Set) → Memᴰ c (choices_below n undecided) → c ⊆ undecided
unfolding choices_below
below_inside n undecided c m v p = ((members_mem n undecided v).0 (choice_inside (members n undecided) c m v p)).1

pub below_choice : (n : ℕ) (undecided d : Set) → d ⊆ undecided → (c : Set) × Memᴰ c (choices_below n undecided) × ((v : ℕ) → v < n → c v ≡ d v)
unfolding choices_below
below_choice n undecided d h = let r = choice_found (members n undecided) d in (r.0, r.1, λ v l. go v l (bool_cases (undecided v)) r)
  where
    go : (v : ℕ) → v < n → (undecided v ≡ true) ⊎ (undecided v ≡ false) → (r : (c : Set) × Memᴰ c (choices (members n undecided)) × ((w : ℕ) → Mem w (members n undecided) → c w ≡ d w)) → r.0 v ≡ d v
    go v l (inl u) r = r.2 v ((members_mem n undecided v).1 (l, u))
    go v l (inr u) r =
        is_false (r.0 v) (λ p. clash (below_inside n undecided r.0 r.1 v p) u)
        ∙ sym (is_false (d v) (λ p. clash (h v p) u))
