-- The work of a lone pass (document 02, request 8), counted from the rules and not from the way they are computed. That it is at most
-- A + 2N + leaf entries + head entries, and that a pass which follows the row of each vertex once does this much: proofs/WorkLaws.
use Rattle.std.specs.Prelude.{Bool, false, ◌&&◌, cond, [], ℕ, suc, ◌+◌, eqb, length}
use Rattle.theory.specs.Sets.{Set, any, sum_below}
use Rattle.theory.specs.Counts.{occ}
use Rattle.theory.specs.Theory.{Theory, Kind, False, Atom, And, Or, Opaque, Absorbed, joins}
use Rattle.theory.specs.Truth.{truth}
use Rattle.theory.specs.Founded.{cyclic, cyclic_cone, atom_truth, founded}

-- the sum of f over the members of s below n
unfoldable pub sum_in : ℕ → Set → (ℕ → ℕ) → ℕ
sum_in n s f = sum_below n (λ i. cond (s i) (f i) 0)

-- whether a node of this kind and operand names atom a
unfoldable pub names : Kind → (operand a : ℕ) → Bool
names False x a = false
names Atom x a = eqb a x
names And x a = false
names Or x a = false
names Opaque x a = false
names Absorbed x a = false

module _ (th : Theory) where
  -- one for each head entry of the facts that have a cyclic head
  unfoldable pub fact_heads : ℕ
  fact_heads = sum_in th.producers (λ p. eqb (th.body p) 0 && any (cyclic th) (th.heads p)) (λ p. length (th.heads p))

  -- the nodes that name atom a
  unfoldable pub naming : ℕ → ℕ
  naming a = sum_in th.nodes (λ n. names (th.kind n) (th.operand n) a) (λ n. 1)

  -- the leaf entries of And and Or that are node m
  unfoldable pub parent_entries : ℕ → ℕ
  parent_entries m = sum_below th.nodes (λ n. occ m (cond (joins (th.kind n)) (th.leaves n) []))

  -- the head entries of the producers with node m as their body
  unfoldable pub body_heads : ℕ → ℕ
  body_heads m = sum_in th.producers (λ p. eqb (th.body p) (suc m)) (λ p. length (th.heads p))

  module _ (never atom_never : Set) where
    -- the true nodes of the cyclic cone
    unfoldable pub true_in_cone : Set
    true_in_cone n = cyclic_cone th n && truth th never (atom_truth (cyclic th) atom_never (founded th never atom_never)) n

    -- one for each founded atom and each node that names it; one for each true node of the cyclic cone, each of its parent entries and each head entry of the
    -- producers with it as their body
    unfoldable pub work : ℕ
    work = fact_heads + sum_in th.atoms (founded th never atom_never) (λ a. 1 + naming a) + sum_in th.nodes true_in_cone (λ n. 1 + parent_entries n + body_heads n)
