-- The loop test, cyclic atoms, the founded set and the missing set (document 01, "Loop test", "Preparation" and "Pass").
use Rattle.std.specs.Prelude.{Bool, not, ◌&&◌, ◌||◌, ltb}
use Rattle.theory.specs.Sets.{Set, everyone, any, member, any_below}
use Rattle.theory.specs.Least.{has, least}
use Rattle.theory.specs.Walks.{reached}
use Rattle.theory.specs.Theory.{Theory}
use Rattle.theory.specs.Edges.{vertices, preds, cone, body_cone}
use Rattle.theory.specs.Truth.{fires}

module _ (th : Theory) where
  -- some vertex is on a closed walk, over all atoms and all nodes (document 01: the loop test says yes)
  unfoldable pub has_cycle : Bool
  has_cycle = any_below (vertices th) (λ v. has (reached (vertices th) (preds th everyone) v) v)

  -- the atom is on a closed walk over all atoms and the body cone; cuts play no part (document 01: marked)
  unfoldable pub cyclic : Set
  cyclic a = ltb a th.atoms && has (reached (vertices th) (preds th (body_cone th)) a) a

  -- the cone from the producers with a marked head
  abbrev pub cone_among : Set → Set
  cone_among marked = cone th (λ p. any marked (th.heads p))

  -- document 01's second cone: from the producers with a cyclic head
  unfoldable pub cyclic_cone : Set
  cyclic_cone = cone_among cyclic

-- the truth of an uncut Atom under the pass: marked and founded, or not marked and not cut
unfoldable pub atom_truth : (marked cut founded : Set) → Set
atom_truth marked cut founded a = marked a && founded a || not (marked a) && not (cut a)

-- a producer with head a fires
unfoldable pub produced : (th : Theory) (never : Set) → Set → Set
produced th never atom a = any_below th.producers (λ p. member a (th.heads p) && fires th never atom (th.body p))

-- the rules of the pass, with any set of atoms as the marked ones
module _ (th : Theory) (marked never atom_never : Set) where
  -- a marked uncut head of a fact, or of a producer whose body is true
  unfoldable pub founded_step : Set → Set
  founded_step s a = marked a && not (atom_never a) && produced th never (atom_truth marked atom_never s) a

  unfoldable pub founded_among : Set
  founded_among a = has (least th.atoms founded_step) a

  -- marked, not cut, not founded
  unfoldable pub missing_among : Set
  missing_among a = marked a && not (atom_never a) && not (founded_among a)

-- document 01: supported, and the missing list as a set; the cyclic atoms are marked
module _ (th : Theory) (never atom_never : Set) where
  unfoldable pub founded : Set
  founded a = founded_among th (cyclic th) never atom_never a

  unfoldable pub missing : Set
  missing a = missing_among th (cyclic th) never atom_never a
