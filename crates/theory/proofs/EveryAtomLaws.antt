-- With every atom marked, the founded atoms are the least set closed under one rule: an uncut head of a fact, or of a producer whose body is true, where Atom(a) is true exactly if a is in the set
-- (`all_closed`, `all_least`). `all_parts` reads the list. The body cone has all that can come to matter (`body_cone_enough`), and a producer with a head has a marked one (`any_filled`).
use mathlib.Core.Path.{◌≡◌, refl}
use mathlib.Core.Logic.{◌⊎◌, inl, inr, ◌↔◌}
use mathlib.Core.Bool.{false, not, ◌&&◌}
use mathlib.Core.List.Memᴰ
use mathlib.Core.List.{List, [], ◌∷◌}
use Prim.Native.Nat.{ℕ, ◌<◌}
use native.Mathlib.Omega.{arith}
use lib.Dec.{ltb, ltb→lt, lt→ltb}
use Rattle.theory.specs.Sets.{Is, Set, ◌⊆◌, Mem, any, filled}
use Rattle.theory.specs.Theory.{Theory, WellFormed}
use Rattle.theory.specs.Edges.{body_cone}
use Rattle.theory.specs.Truth.{fires}
use Rattle.theory.specs.Founded.{atom_truth, founded_among}
use Rattle.theory.specs.Pass.{EnoughAmong}
use Rattle.theory.specs.EveryAtom.{every_atom, founded_all, missing_all}
use Rattle.theory.proofs.SetLaws.{is_T, T_is, clash, and_intro, and_left, and_right, or_cases, or_left, not_true}
use Rattle.theory.proofs.EdgeLaws.{cone_body, cone_leaf}
use Rattle.theory.proofs.ConeLaws.{filled_mem}
use Rattle.theory.proofs.TruthLaws.{fires_mono, fires_less}
use Rattle.theory.proofs.FoundedLaws.{among_closed, among_induct, among_least, among_parts}

pub every : (th : Theory) (a : ℕ) → Is (every_atom th a) ↔ (a < th.atoms)
unfolding every_atom
every th a = (λ p. ltb→lt a th.atoms (is_T _ p), λ l. T_is (ltb a th.atoms) (lt→ltb a th.atoms l))

-- an Atom is true exactly if its atom is in the set
atom_all : (th : Theory) (cut s : Set) (a : ℕ) → a < th.atoms → Is (atom_truth (every_atom th) cut s a) ↔ Is (s a)
unfolding atom_truth
atom_all th cut s a l = (λ p. there (or_cases (every_atom th a && s a) _ p), λ q. or_left (every_atom th a && s a) _ (and_intro ((every th a).1 l) q))
  where
    there : Is (every_atom th a && s a) ⊎ Is (not (every_atom th a) && not (cut a)) → Is (s a)
    there (inl p) = and_right (every_atom th a) (s a) p
    there (inr p) = clash ((every th a).1 l) (not_true (every_atom th a) (and_left (not (every_atom th a)) (not (cut a)) p))

module _ (th : Theory) (never atom_never : Set) where
  low : (a : ℕ) → Is (founded_all th never atom_never a) → a < th.atoms
  unfolding founded_all
  low = among_induct th (every_atom th) never atom_never (λ a. a < th.atoms) (λ s ih a l d. l)

  pub all_closed : (a p : ℕ) → a < th.atoms → atom_never a ≡ false → p < th.producers → Mem a (th.heads p)
      → Is (fires th never (founded_all th never atom_never) (th.body p)) → Is (founded_all th never atom_never a)
  unfolding founded_all
  all_closed a p l c i m f =
      among_closed th (every_atom th) never atom_never a p l ((every th a).1 l) c i m
      (fires_mono th never _ _ (λ b q. (atom_all th atom_never (founded_among th (every_atom th) never atom_never) b (low b q)).1 q) (th.body p) f)

  pub all_least : WellFormed th → (s : Set)
      → ((a p : ℕ) → a < th.atoms → atom_never a ≡ false → p < th.producers → Mem a (th.heads p) → Is (fires th never s (th.body p)) → Is (s a))
      → founded_all th never atom_never ⊆ s
  unfolding founded_all
  all_least ok s closed =
      among_least th (every_atom th) never atom_never s
      (λ a p l m c i h f. closed a p l c i h (fires_less th ok never never _ _ (λ n k q. q) (λ b k q. (atom_all th atom_never s b k).0 q) p i f))

  pub all_parts : (a : ℕ) → Is (missing_all th never atom_never a) ↔ ((a < th.atoms) × (atom_never a ≡ false) × (founded_all th never atom_never a ≡ false))
  unfolding missing_all founded_all
  all_parts a = (
    λ p. let r = (among_parts th (every_atom th) never atom_never a).0 p in ((every th a).0 r.0, r.1, r.2),
    λ q. (among_parts th (every_atom th) never atom_never a).1 ((every th a).1 q.0, q.1, q.2),
  )

-- ---- the pass

module _ (th : Theory) (ok : WellFormed th) where
  pub any_filled : (p : ℕ) → p < th.producers → any (every_atom th) (th.heads p) ≡ filled (th.heads p)
  unfolding any filled
  any_filled p l = go (th.heads p) (λ a m. ok.head_low p a l m)
    where
      go : (hs : List ℕ) → ((a : ℕ) → Mem a hs → a < th.atoms) → any (every_atom th) hs ≡ filled hs
      go [] h = refl
      go (a ∷ hs) h = or_left (every_atom th a) (any (every_atom th) hs) ((every th a).1 (h a (Memᴰ.head refl)))

  pub body_cone_enough : (never atom_never : Set) → EnoughAmong th (every_atom th) (body_cone th) never atom_never
  unfolding body_cone
  body_cone_enough never atom_never = record {
    bodies = λ p n a l i m e. cone_body th (λ p. filled (th.heads p)) p n l (ok.body_low p n l e) e (filled_mem i);
    leaves = λ n m l i j e. let h = ok.leaf_low n m l e in cone_leaf th (λ p. filled (th.heads p)) m n l (omega arith) i j e;
  }
