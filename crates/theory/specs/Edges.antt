-- Vertices, edges and cones (document 01, "Preparation" and "Loop test"). Atom a is vertex a, and node n is vertex atoms + n.
use Rattle.std.specs.Prelude.{Bool, true, false, ◌&&◌, ◌||◌, cond, List, [], ◌∷◌, ◌++◌, map, ℕ, zero, suc, ◌+◌, ◌-◌, eqb, ltb}
use Rattle.theory.specs.Sets.{Set, member, filled, any_below}
use Rattle.theory.specs.Least.{has, least}
use Rattle.theory.specs.Theory.{Theory, Kind, False, Atom, And, Or, Opaque, Absorbed, joins, absorbed}

-- x once for each time that k is in the list
unfoldable pub occurrences : ℕ → ℕ → List ℕ → List ℕ
occurrences x k [] = []
occurrences x k (y ∷ l) = cond (eqb k y) (x ∷ occurrences x k l) (occurrences x k l)

module _ (th : Theory) where
  unfoldable pub vertices : ℕ
  vertices = th.atoms + th.nodes

  -- body to each head: the body as often as a is among the heads, and nothing for a fact
  unfoldable pub body_entries : ℕ → ℕ → List ℕ → List ℕ
  body_entries a zero heads = []
  body_entries a (suc n) heads = occurrences (th.atoms + n) a heads

  -- the bodies of the first p producers with head a
  unfoldable pub bodies_below : ℕ → ℕ → List ℕ
  bodies_below a zero = []
  bodies_below a (suc p) = bodies_below a p ++ body_entries a (th.body p) (th.heads p)

  -- atom to each Atom node naming it; leaf to its And or Or
  unfoldable pub inputs : Kind → ℕ → List ℕ
  inputs False n = []
  inputs Atom n = th.operand n ∷ []
  inputs And n = map (λ m. th.atoms + m) (th.leaves n)
  inputs Or n = map (λ m. th.atoms + m) (th.leaves n)
  inputs Opaque n = []
  inputs Absorbed n = []

  unfoldable pub preds_by : Bool → Bool → ℕ → List ℕ
  preds_by true c v = bodies_below v th.producers
  preds_by false true v = inputs (th.kind (v - th.atoms)) (v - th.atoms)
  preds_by false false v = []

  -- the vertices from which an edge leads to v, repeats kept; the vertices are all atoms and the nodes in c
  unfoldable pub preds : Set → ℕ → List ℕ
  preds c v = preds_by (ltb v th.atoms) (ltb (v - th.atoms) th.nodes && c (v - th.atoms)) v

  -- n is the body of a wanted producer
  unfoldable pub is_body : Set → Set
  is_body wanted n = any_below th.producers (λ p. eqb (th.body p) (suc n) && wanted p)

  -- n is a leaf of an And or Or in s
  unfoldable pub is_leaf : Set → Set
  is_leaf s n = any_below th.nodes (λ m. s m && joins (th.kind m) && member n (th.leaves m))

  -- a cone: the bodies of the wanted producers, and the leaves of every And and Or reached
  unfoldable pub cone_step : Set → Set → Set
  cone_step wanted s n = is_body wanted n || is_leaf s n

  unfoldable pub cone : Set → Set
  cone wanted n = has (least th.nodes (cone_step wanted)) n

  -- document 01's first cone: from the producers with at least one head
  unfoldable pub body_cone : Set
  body_cone = cone (λ p. filled (th.heads p))

  -- an absorbed node of the body cone, which refusal 12 is for
  abbrev pub absorbed_node : Set
  absorbed_node n = body_cone n && absorbed (th.kind n)

  -- the vertices of preparation: all atoms and the body cone
  unfoldable pub in_graph : Set
  in_graph v = ltb v th.atoms || body_cone (v - th.atoms)

  -- the edges of preparation
  abbrev pub cone_preds : ℕ → List ℕ
  cone_preds v = preds body_cone v
