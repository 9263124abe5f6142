-- The founded set is closed under the two rules of "Pass" (`founded_closed`: a fact fires, and so does a producer whose body is true), it lies in
-- every set that is (`founded_least`), and what the rules pass on holds of its members (`founded_induct`). `missing_parts` reads the missing set.
-- The same with any set of marked atoms: `among_closed`, `among_least`, `among_induct`, `among_parts`.
use mathlib.Core.Path.{◌≡◌}
use mathlib.Core.Logic.{◌⊎◌, inl, inr, ◌↔◌}
use mathlib.Core.Bool.{false, not, ◌&&◌, ◌||◌}
use Prim.Native.Nat.{ℕ, ◌<◌}
use Rattle.theory.specs.Sets.{Is, Set, ◌⊆◌, Mem, member}
use Rattle.theory.specs.Least.{has, least}
use Rattle.theory.specs.Theory.{Theory}
use Rattle.theory.specs.Truth.{fires}
use Rattle.theory.specs.Founded.{cyclic, atom_truth, produced, founded_step, founded_among, missing_among, founded, missing}
use Rattle.theory.proofs.SetLaws.{is_false, clash, mem_member, member_mem, below_found, below_holds, and_intro, and_left, and_right, or_cases, or_left, or_right, not_true, not_false}
use Rattle.theory.proofs.LeastLaws.{least_induct, least_closed}
use Rattle.theory.proofs.TruthLaws.{fires_mono}
use Rattle.theory.proofs.CycleLaws.{cyclic_walk}

-- an Atom that is true stays so if its atom is founded where it was, and, unless it is marked, cut only where it was
pub atom_carries : (c cut cut′ s t : Set) (a : ℕ) → (c a ≡ false → Is (cut′ a) → Is (cut a)) → (Is (s a) → Is (t a)) → Is (atom_truth c cut s a) → Is (atom_truth c cut′ t a)
unfolding atom_truth
atom_carries c cut cut′ s t a f h p = go (or_cases (c a && s a) (not (c a) && not (cut a)) p)
  where
    go : Is (c a && s a) ⊎ Is (not (c a) && not (cut a)) → Is (c a && t a || not (c a) && not (cut′ a))
    go (inl q) = or_left (c a && t a) _ (and_intro (and_left (c a) (s a) q) (h (and_right (c a) (s a) q)))
    go (inr q) =
        let off = and_left (not (c a)) (not (cut a)) q in
        or_right (c a && t a) _ (and_intro off (not_false (cut′ a) (is_false (cut′ a) (λ z. clash (f (not_true (c a) off) z) (not_true (cut a) (and_right (not (c a)) (not (cut a)) q))))))

-- more founded atoms, more true ones
pub atom_truth_mono : (c cut s t : Set) → s ⊆ t → atom_truth c cut s ⊆ atom_truth c cut t
atom_truth_mono c cut s t h a = atom_carries c cut cut s t a (λ e z. z) (h a)

module _ (th : Theory) (never : Set) where
  pub produced_by : (atom : Set) (a : ℕ) → Is (produced th never atom a) ↔ ((p : ℕ) × (p < th.producers) × Mem a (th.heads p) × Is (fires th never atom (th.body p)))
  unfolding produced
  produced_by atom a = (
    λ q. let r = below_found th.producers _ q in
        (r.0, r.1, member_mem a (th.heads r.0) (and_left (member a (th.heads r.0)) _ r.2), and_right (member a (th.heads r.0)) _ r.2),
    λ r. below_holds th.producers (λ p. member a (th.heads p) && fires th never atom (th.body p)) r.0 r.1 (and_intro (mem_member r.2) r.3),
  )

  produced_mono : (v w : Set) → v ⊆ w → produced th never v ⊆ produced th never w
  produced_mono v w h a q = let r = (produced_by v a).0 q in (produced_by w a).1 (r.0, r.1, r.2, fires_mono th never v w h (th.body r.0) r.3)

-- ---- any set of marked atoms

module _ (th : Theory) (marked never atom_never : Set) where
  step_mono : (s t : Set) → s ⊆ t → founded_step th marked never atom_never s ⊆ founded_step th marked never atom_never t
  unfolding founded_step
  step_mono s t h a p =
      and_intro (and_left (marked a && not (atom_never a)) _ p)
      (produced_mono th never _ _ (atom_truth_mono marked atom_never s t h) a (and_right (marked a && not (atom_never a)) _ p))

  -- a is a marked uncut head of a producer that fires, with the atoms of s founded
  pub record DerivedAmong (s : Set) (a : ℕ) : Type 0 where
    pub is_marked : Is (marked a)
    pub uncut : atom_never a ≡ false
    pub by : ℕ
    pub by_low : by < th.producers
    pub head : Mem a (th.heads by)
    pub fired : Is (fires th never (atom_truth marked atom_never s) (th.body by))

  derived_step : (s : Set) (a : ℕ) → Is (founded_step th marked never atom_never s a) ↔ DerivedAmong s a
  unfolding founded_step
  derived_step s a = (
    λ q. let front = and_left (marked a && not (atom_never a)) _ q in
        let r = (produced_by th never _ a).0 (and_right (marked a && not (atom_never a)) _ q) in
        record { is_marked = and_left (marked a) _ front; uncut = not_true (atom_never a) (and_right (marked a) _ front); by = r.0; by_low = r.1; head = r.2; fired = r.3 },
    λ d. and_intro (and_intro d.is_marked (not_false (atom_never a) d.uncut)) ((produced_by th never (atom_truth marked atom_never s) a).1 (d.by, d.by_low, d.head, d.fired)),
  )

  pub among_closed : (a p : ℕ) → a < th.atoms → Is (marked a) → atom_never a ≡ false → p < th.producers → Mem a (th.heads p)
      → Is (fires th never (atom_truth marked atom_never (founded_among th marked never atom_never)) (th.body p)) → Is (founded_among th marked never atom_never a)
  unfolding founded_among
  among_closed a p low m c l h f =
      least_closed th.atoms (founded_step th marked never atom_never) step_mono a low
      ((derived_step (has (least th.atoms (founded_step th marked never atom_never))) a).1 (record { is_marked = m; uncut = c; by = p; by_low = l; head = h; fired = f }))

  pub among_induct : (P : ℕ → Type 0) → ((s : Set) → ((a : ℕ) → Is (s a) → P a) → (a : ℕ) → a < th.atoms → DerivedAmong s a → P a)
      → (a : ℕ) → Is (founded_among th marked never atom_never a) → P a
  unfolding founded_among
  among_induct P pass a q = least_induct th.atoms (founded_step th marked never atom_never) P (λ s ih b l k. pass s ih b l ((derived_step s b).0 k)) a q

  pub among_least : (s : Set)
      → ((a p : ℕ) → a < th.atoms → Is (marked a) → atom_never a ≡ false → p < th.producers → Mem a (th.heads p) → Is (fires th never (atom_truth marked atom_never s) (th.body p)) → Is (s a))
      → founded_among th marked never atom_never ⊆ s
  among_least s closed = among_induct (λ a. Is (s a)) pass
    where
      pass : (u : Set) → u ⊆ s → (a : ℕ) → a < th.atoms → DerivedAmong u a → Is (s a)
      pass u ih a l d =
          closed a d.by l d.is_marked d.uncut d.by_low d.head
          (fires_mono th never _ _ (atom_truth_mono marked atom_never u s ih) (th.body d.by) d.fired)

  pub among_parts : (a : ℕ) → Is (missing_among th marked never atom_never a) ↔ (Is (marked a) × (atom_never a ≡ false) × (founded_among th marked never atom_never a ≡ false))
  unfolding missing_among
  among_parts a = (
    λ z. let front = and_left (marked a && not (atom_never a)) _ z in
        (and_left (marked a) _ front, not_true (atom_never a) (and_right (marked a) _ front), not_true (founded_among th marked never atom_never a) (and_right (marked a && not (atom_never a)) _ z)),
    λ r. and_intro (and_intro r.0 (not_false (atom_never a) r.1)) (not_false (founded_among th marked never atom_never a) r.2),
  )

-- ---- the cyclic atoms

module _ (th : Theory) (never atom_never : Set) where
  -- a is a cyclic uncut head of a producer that fires, with the atoms of s founded
  abbrev pub Derived : (s : Set) (a : ℕ) → Type 0
  Derived s a = DerivedAmong th (cyclic th) never atom_never s a

  pub founded_closed : (a p : ℕ) → Is (cyclic th a) → atom_never a ≡ false → p < th.producers → Mem a (th.heads p)
      → Is (fires th never (atom_truth (cyclic th) atom_never (founded th never atom_never)) (th.body p)) → Is (founded th never atom_never a)
  unfolding founded
  founded_closed a p m c l h f = among_closed th (cyclic th) never atom_never a p ((cyclic_walk th a).0 m).0 m c l h f

  pub founded_induct : (P : ℕ → Type 0) → ((s : Set) → ((a : ℕ) → Is (s a) → P a) → (a : ℕ) → Derived s a → P a) → (a : ℕ) → Is (founded th never atom_never a) → P a
  unfolding founded
  founded_induct P pass a q = among_induct th (cyclic th) never atom_never P (λ s ih b l d. pass s ih b d) a q

  pub founded_least : (s : Set)
      → ((a p : ℕ) → Is (cyclic th a) → atom_never a ≡ false → p < th.producers → Mem a (th.heads p) → Is (fires th never (atom_truth (cyclic th) atom_never s) (th.body p)) → Is (s a))
      → founded th never atom_never ⊆ s
  unfolding founded
  founded_least s closed = among_least th (cyclic th) never atom_never s (λ a p l. closed a p)

  pub missing_parts : (a : ℕ) → Is (missing th never atom_never a) ↔ (Is (cyclic th a) × (atom_never a ≡ false) × (founded th never atom_never a ≡ false))
  unfolding missing founded
  missing_parts a = among_parts th (cyclic th) never atom_never a
