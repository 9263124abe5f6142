-- Request 12: two passes find what holds under every choice (`always_exactly`) and under at least one (`sometimes_pass`); the second is document 01's own
-- pass with other nodes cut. Trying the choices one after the other gives the same lists (`always_tried`, `sometimes_tried`). An undecided atom is never in
-- the first list (`undecided_out`), and with nothing undecided both are the plain list (`all_decided`).
use mathlib.Core.Path.{◌≡◌, refl, sym, ap, ◌∙◌, subst}
use mathlib.Core.List.{List}
use mathlib.Core.Logic.{◌⊎◌, inl, inr, ◌↔◌}
use mathlib.Core.Bool.{Bool, true, false, not, ◌&&◌, ◌||◌}
use Prim.Native.Nat.{ℕ, ◌<◌}
use lib.Dec.{eqb}
use Rattle.theory.specs.Sets.{Is, Set, ◌⊆◌}
use Rattle.theory.specs.Theory.{Theory, WellFormed, Kind, False, Atom, And, Or, Opaque, Absorbed}
use Rattle.theory.specs.Founded.{cyclic, atom_truth, produced, founded, missing}
use Rattle.theory.proofs.SetLaws.{neither, neither_left, neither_right, bool_cases, clash, and_intro, and_left, and_right, or_cases, or_left, or_none, not_true, not_false, is_false, is_eq, eq_is, same_test}
use Rattle.theory.proofs.FoundedLaws.{Derived, produced_by, founded_closed, founded_induct, missing_parts}
use Rattle.theory.proofs.CutLaws.{more_cuts, missing_cuts}
use Rattle.choices.specs.Choices.{◌∪◌, nobody, choices_below, all_of, any_of}
use Rattle.choices.specs.Undecided.{names, MissingAlways, MissingSometimes, missing_in_all, missing_in_some, always_missing, shut, sometimes_missing}
use Rattle.choices.proofs.UnderLaws.{atom_cases, atom_on, atom_off, Carries, fires_under}
use Rattle.choices.proofs.ChoiceLaws.{all_chosen, some_chosen, below_inside, below_choice}

names_atom : (k : Kind) (b : Bool) → Is (names k b) → (k ≡ Atom) × Is b
unfolding names
names_atom False b p = clash refl (sym p)
names_atom Atom b p = (refl, p)
names_atom And b p = clash refl (sym p)
names_atom Or b p = clash refl (sym p)
names_atom Opaque b p = clash refl (sym p)
names_atom Absorbed b p = clash refl (sym p)

atom_names : (k : Kind) (b : Bool) → k ≡ Atom → names k b ≡ b
unfolding names
atom_names k b e = subst (λ (x : Kind). names x b ≡ b) (sym e) refl

none : (s : Set) → nobody ⊆ s
none s v p = clash refl (sym p)

-- a choice rules out nothing that is decided
left : (s t : Set) → s ⊆ t → (v : ℕ) → t v ≡ false → s v ≡ false
left s t i v u = is_false (s v) (λ z. clash (i v z) u)

module _ (th : Theory) (ok : WellFormed th) (never undecided atom_never atom_undecided : Set) where
  -- ---- under every choice

  pub always_exactly : (a : ℕ) → MissingAlways th never undecided atom_never atom_undecided a ↔ Is (always_missing th never atom_never atom_undecided a)
  unfolding always_missing
  always_exactly a = (to, from)
    where
      plain : missing th never atom_never a ≡ missing th (never ∪ nobody) (atom_never ∪ nobody) a
      plain = missing_cuts th ok _ _ _ _ (record { nodes = λ n _. sym (or_none (never n)); atoms = λ b _. sym (or_none (atom_never b)) }) a

      to : MissingAlways th never undecided atom_never atom_undecided a → Is (missing th never atom_never a && not (atom_undecided a))
      to h =
          and_intro (plain ∙ h nobody nobody (none _) (none _))
          (not_false (atom_undecided a) (neither_right (atom_never a) _ ((missing_parts th (never ∪ nobody) (atom_never ∪ atom_undecided) a).0 (h nobody atom_undecided (none _) (λ v p. p))).1))

      from : Is (missing th never atom_never a && not (atom_undecided a)) → MissingAlways th never undecided atom_never atom_undecided a
      from p c d i j =
          let r = (missing_parts th never atom_never a).0 (and_left (missing th never atom_never a) _ p) in
          let q = not_true (atom_undecided a) (and_right (missing th never atom_never a) _ p) in
          (missing_parts th (never ∪ c) (atom_never ∪ d) a).1 (
            r.0,
            neither (atom_never a) (d a) r.1 (left d atom_undecided j a q),
            is_false _ (λ z. clash (more_cuts th ok never atom_never (never ∪ c) (atom_never ∪ d) (λ n l y. or_left (never n) (c n) y) (λ b l y. or_left (atom_never b) (d b) y) a z) r.2),
          )

  -- an atom undecided itself is never in the first list
  pub undecided_out : (a : ℕ) → Is (atom_undecided a) → MissingAlways th never undecided atom_never atom_undecided a → ⊥
  unfolding always_missing
  undecided_out a p h = clash p (not_true (atom_undecided a) (and_right (missing th never atom_never a) _ ((always_exactly a).0 h)))

  -- ---- under at least one choice

  abbrev every_cut : Set
  every_cut = never ∪ undecided

  abbrev shuts : Set
  shuts = shut th never undecided atom_undecided

  -- a shut node: cut or undecided, or the Atom of an undecided atom
  shut_cases : (n : ℕ) → Is (shuts n) → Is (every_cut n) ⊎ ((th.kind n ≡ Atom) × Is (atom_undecided (th.operand n)))
  unfolding shut
  shut_cases n p = go (or_cases (every_cut n) _ p)
    where
      go : Is (every_cut n) ⊎ Is (names (th.kind n) (atom_undecided (th.operand n))) → Is (every_cut n) ⊎ ((th.kind n ≡ Atom) × Is (atom_undecided (th.operand n)))
      go (inl q) = inl q
      go (inr q) = inr (names_atom (th.kind n) _ q)

  unshut : (n : ℕ) → shuts n ≡ false → (every_cut n ≡ false) × (th.kind n ≡ Atom → atom_undecided (th.operand n) ≡ false)
  unfolding shut
  unshut n p = (neither_left (every_cut n) _ p, λ e. sym (atom_names (th.kind n) _ e) ∙ neither_right (every_cut n) _ p)

  -- missing under a choice: missing with the shut nodes cut
  module _ (a : ℕ) (c d : Set) (i : c ⊆ undecided) (j : d ⊆ atom_undecided) (p : Is (missing th (never ∪ c) (atom_never ∪ d) a)) where
    chosen : Is (cyclic th a) × ((atom_never ∪ d) a ≡ false) × (founded th (never ∪ c) (atom_never ∪ d) a ≡ false)
    chosen = (missing_parts th (never ∪ c) (atom_never ∪ d) a).0 p

    -- the truth of an Atom under the choice
    abbrev env : Set
    env = atom_truth (cyclic th) (atom_never ∪ d) (founded th (never ∪ c) (atom_never ∪ d))

    abbrev Known : ℕ → Type 0
    Known b = Is (cyclic th b) × (atom_never b ≡ false) × Is (produced th (never ∪ c) env b)

    -- what is produced is founded, if the choice leaves it uncut
    settled : (b : ℕ) → Known b → d b ≡ false → Is (founded th (never ∪ c) (atom_never ∪ d) b)
    settled b k u =
        let s = (produced_by th (never ∪ c) env b).0 k.2 in
        founded_closed th (never ∪ c) (atom_never ∪ d) b s.0 k.0 (neither (atom_never b) _ k.1 u) s.1 s.2 s.3

    stays : (s : Set) → ((b : ℕ) → Is (s b) → Known b) → (b : ℕ) → atom_undecided b ≡ false → Is (atom_truth (cyclic th) atom_never s b) → Is (env b)
    stays s ih b u q = go (atom_cases (cyclic th) atom_never s b q)
      where
        go : (Is (cyclic th b) × Is (s b)) ⊎ ((cyclic th b ≡ false) × (atom_never b ≡ false)) → Is (env b)
        go (inl x) = atom_on (cyclic th) (atom_never ∪ d) _ b x.0 (settled b (ih b x.1) (left d atom_undecided j b u))
        go (inr x) = atom_off (cyclic th) (atom_never ∪ d) _ b x.0 (neither (atom_never b) _ x.1 (left d atom_undecided j b u))

    under_choice : (s : Set) → ((b : ℕ) → Is (s b) → Known b) → (b : ℕ) → Derived th shuts atom_never s b → Known b
    under_choice s ih b e =
        (e.is_marked, e.uncut, (produced_by th (never ∪ c) env b).1 (e.by, e.by_low, e.head, fires_under th ok _ _ _ _ carries e.by e.by_low e.fired))
      where
        carries : Carries th shuts (atom_truth (cyclic th) atom_never s) (never ∪ c) env
        carries n l o q = let u = unshut n o in
            (neither (never n) _ (neither_left (never n) _ u.0) (left c undecided i n (neither_right (never n) _ u.0)), λ e. stays s ih (th.operand n) (u.1 e) (q e))

    choice_shut : Is (missing th shuts atom_never a)
    choice_shut =
        let r = chosen in
        (missing_parts th shuts atom_never a).1
        (r.0, neither_left (atom_never a) _ r.1, is_false _ (λ z. clash (settled a (founded_induct th shuts atom_never Known under_choice a z) (neither_right (atom_never a) _ r.1)) r.2))

  -- the choice that shows it: whatever is undecided is cut, but for the atom itself
  abbrev others : ℕ → Set
  others a b = atom_undecided b && not (eqb a b)

  module _ (a : ℕ) (p : Is (missing th shuts atom_never a)) where
    abbrev cut : Set
    cut = atom_never ∪ others a

    listed : Is (cyclic th a) × (atom_never a ≡ false) × (founded th shuts atom_never a ≡ false)
    listed = (missing_parts th shuts atom_never a).0 p

    -- undecided and left uncut: the atom itself
    self : (b : ℕ) → cut b ≡ false → Is (atom_undecided b) → a ≡ b
    self b c u = go (bool_cases (eqb a b))
      where
        go : (eqb a b ≡ true) ⊎ (eqb a b ≡ false) → a ≡ b
        go (inl e) = eq_is a b e
        go (inr e) = clash (and_intro u (not_false (eqb a b) e)) (neither_right (atom_never b) _ c)

    abbrev Shown : ℕ → Type 0
    Shown b = Is (founded th shuts atom_never b) × (atom_undecided b ≡ false)

    -- the atom of an Atom that is true is decided, and the Atom is true with the shut nodes cut
    decided : (s : Set) → ((b : ℕ) → Is (s b) → Shown b) → (b : ℕ) → Is (atom_truth (cyclic th) cut s b) → (atom_undecided b ≡ false) × Is (atom_truth (cyclic th) atom_never (founded th shuts atom_never) b)
    decided s ih b q = go (atom_cases (cyclic th) cut s b q)
      where
        go : (Is (cyclic th b) × Is (s b)) ⊎ ((cyclic th b ≡ false) × (cut b ≡ false)) → (atom_undecided b ≡ false) × Is (atom_truth (cyclic th) atom_never (founded th shuts atom_never) b)
        go (inl x) = let k = ih b x.1 in (k.1, atom_on (cyclic th) atom_never _ b x.0 k.0)
        go (inr x) = (is_false _ (λ u. clash (subst (λ (z : ℕ). Is (cyclic th z)) (self b x.1 u) listed.0) x.0), atom_off (cyclic th) atom_never _ b x.0 (neither_left (atom_never b) _ x.1))

    by_shut : (s : Set) → ((b : ℕ) → Is (s b) → Shown b) → (b : ℕ) → Derived th every_cut cut s b → Shown b
    by_shut s ih b d = (k, is_false _ (λ u. clash (subst (λ (z : ℕ). Is (founded th shuts atom_never z)) (sym (self b d.uncut u)) k) listed.2))
      where
        open_shut : (n : ℕ) → every_cut n ≡ false → (th.kind n ≡ Atom → Is (atom_truth (cyclic th) cut s (th.operand n))) → Is (every_cut n) ⊎ ((th.kind n ≡ Atom) × Is (atom_undecided (th.operand n))) → ⊥
        open_shut n c q (inl x) = clash x c
        open_shut n c q (inr x) = clash x.1 (decided s ih (th.operand n) (q x.0)).0

        k : Is (founded th shuts atom_never b)
        k = founded_closed th shuts atom_never b d.by d.is_marked (neither_left (atom_never b) _ d.uncut) d.by_low d.head
            (fires_under th ok _ _ _ _ (λ n l c q. (is_false (shuts n) (λ z. open_shut n c q (shut_cases n z)), λ e. (decided s ih (th.operand n) (q e)).1)) d.by d.by_low d.fired)

    -- left uncut, the atom changes nothing
    shut_choice : Is (missing th every_cut cut a)
    shut_choice =
        let r = listed in
        let apart : others a a ≡ false = is_false _ (λ z. clash (is_eq a a refl) (not_true (eqb a a) (and_right (atom_undecided a) _ z))) in
        (missing_parts th every_cut cut a).1 (r.0, neither (atom_never a) _ r.1 apart, is_false _ (λ z. clash (founded_induct th every_cut cut Shown by_shut a z).0 r.2))

  pub sometimes_pass : (a : ℕ) → MissingSometimes th never undecided atom_never atom_undecided a ↔ Is (sometimes_missing th never undecided atom_never atom_undecided a)
  unfolding sometimes_missing
  sometimes_pass a = (λ h. choice_shut a h.0 h.1 h.2 h.3 h.4, λ p. (undecided, others a, (λ v z. z), (λ v z. and_left (atom_undecided v) _ z), shut_choice a p))

  -- ---- the choices one after the other

  abbrev under : ℕ → Set → Set → Bool
  under a c d = missing th (never ∪ c) (atom_never ∪ d) a

  -- choices that agree below the numbers of nodes and atoms do the same
  alike : (a : ℕ) (c d e f : Set) → ((v : ℕ) → v < th.nodes → e v ≡ c v) → ((v : ℕ) → v < th.atoms → f v ≡ d v) → under a e f ≡ under a c d
  alike a c d e f p q = missing_cuts th ok _ _ _ _ (record { nodes = λ n l. rw (p n l); atoms = λ n l. rw (q n l) }) a

  all_exactly : (a : ℕ) → MissingAlways th never undecided atom_never atom_undecided a ↔ Is (missing_in_all th never undecided atom_never atom_undecided a)
  unfolding missing_in_all
  all_exactly a = (
    λ h. (all_chosen (λ c. all_of (under a c) atom_choices) node_choices).1 (λ c m. (all_chosen (under a c) atom_choices).1 (λ d k. h c d (below_inside th.nodes undecided c m) (below_inside th.atoms atom_undecided d k))),
    λ p c d i j.
        let x = below_choice th.nodes undecided c i in
        let y = below_choice th.atoms atom_undecided d j in
        sym (alike a c d x.0 y.0 x.2 y.2)
        ∙ (all_chosen (under a x.0) atom_choices).0 ((all_chosen (λ e. all_of (under a e) atom_choices) node_choices).0 p x.0 x.1) y.0 y.1,
  )
    where
      node_choices : List Set
      node_choices = choices_below th.nodes undecided

      atom_choices : List Set
      atom_choices = choices_below th.atoms atom_undecided

  some_exactly : (a : ℕ) → MissingSometimes th never undecided atom_never atom_undecided a ↔ Is (missing_in_some th never undecided atom_never atom_undecided a)
  unfolding missing_in_some
  some_exactly a = (
    λ h.
        let x = below_choice th.nodes undecided h.0 h.2 in
        let y = below_choice th.atoms atom_undecided h.1 h.3 in
        (some_chosen (λ c. any_of (under a c) atom_choices) node_choices).1
        (x.0, x.1, (some_chosen (under a x.0) atom_choices).1 (y.0, y.1, alike a h.0 h.1 x.0 y.0 x.2 y.2 ∙ h.4)),
    λ p.
        let x = (some_chosen (λ c. any_of (under a c) atom_choices) node_choices).0 p in
        let y = (some_chosen (under a x.0) atom_choices).0 x.2 in
        (x.0, y.0, below_inside th.nodes undecided x.0 x.1, below_inside th.atoms atom_undecided y.0 y.1, y.2),
  )
    where
      node_choices : List Set
      node_choices = choices_below th.nodes undecided

      atom_choices : List Set
      atom_choices = choices_below th.atoms atom_undecided

  -- the passes give what the choices, tried one after the other, give
  pub always_tried : (a : ℕ) → always_missing th never atom_never atom_undecided a ≡ missing_in_all th never undecided atom_never atom_undecided a
  always_tried a = same_test _ _ (λ p. (all_exactly a).0 ((always_exactly a).1 p)) (λ p. (always_exactly a).0 ((all_exactly a).1 p))

  pub sometimes_tried : (a : ℕ) → sometimes_missing th never undecided atom_never atom_undecided a ≡ missing_in_some th never undecided atom_never atom_undecided a
  sometimes_tried a = same_test _ _ (λ p. (some_exactly a).0 ((sometimes_pass a).1 p)) (λ p. (sometimes_pass a).0 ((some_exactly a).1 p))

  -- ---- nothing undecided

  module _ (nodes : (n : ℕ) → n < th.nodes → undecided n ≡ false) (atoms : (a : ℕ) → a < th.atoms → atom_undecided a ≡ false) where
    plainly : (a : ℕ) (c d : Set) → c ⊆ undecided → d ⊆ atom_undecided → missing th (never ∪ c) (atom_never ∪ d) a ≡ missing th never atom_never a
    plainly a c d i j = missing_cuts th ok _ _ _ _ (record { nodes = λ n l. uncut (never n) (left c undecided i n (nodes n l)); atoms = λ n l. uncut (atom_never n) (left d atom_undecided j n (atoms n l)) }) a
      where
        uncut : (b : Bool) {c : Bool} → c ≡ false → b || c ≡ b
        uncut b e = ap (λ (z : Bool). b || z) e ∙ or_none b

    pub all_decided : (a : ℕ)
        → (MissingAlways th never undecided atom_never atom_undecided a ↔ Is (missing th never atom_never a)) × (MissingSometimes th never undecided atom_never atom_undecided a ↔ Is (missing th never atom_never a))
    all_decided a = (
      ((λ h. sym (plainly a nobody nobody (none _) (none _)) ∙ h nobody nobody (none _) (none _)), λ p c d i j. plainly a c d i j ∙ p),
      ((λ h. sym (plainly a h.0 h.1 h.2 h.3) ∙ h.4), λ p. (nobody, nobody, none _, none _, plainly a nobody nobody (none _) (none _) ∙ p)),
    )
