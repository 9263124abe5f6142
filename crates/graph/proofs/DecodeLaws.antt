-- What an accessor reads is a field of the decoded theory, and an accepted graph meets what the readers of a link ask.
use mathlib.Core.Path.{◌≡◌, refl, sym, ap, ◌∙◌}
use mathlib.Core.List.{List}
use Prim.Native.Nat.{ℕ, ◌+◌, ◌-◌, ◌*◌, ◌≤◌, ◌<◌}
use native.Mathlib.Omega.{arith}
use lib.ListN.{length, get_or}
use Rattle.theory.specs.Theory.{Kind}
use Rattle.theory.specs.Words.{kind_of, node_at, producer_at, link_at, value_of, next_of, chain, theory_of}
use Rattle.theory.specs.Links.{MeetsOnce}
use Rattle.theory.specs.Accepted.{Edition, Accepted, size_of}
use Rattle.theory.proofs.ChainLaws.{once_link}
use Rattle.graph.specs.Layout.{LinksFrom, LinkIn, value_in, next_in}

module _ (ws : List ℕ) where
  pub the_atoms : (theory_of ws).atoms ≡ get_or ws 1 0
  unfolding theory_of
  the_atoms = refl

  pub the_nodes : (theory_of ws).nodes ≡ get_or ws 2 0
  unfolding theory_of
  the_nodes = refl

  pub the_producers : (theory_of ws).producers ≡ get_or ws 3 0
  unfolding theory_of
  the_producers = refl

  pub the_kind : (n : ℕ) → (theory_of ws).kind n ≡ kind_of (get_or ws (node_at n) 0)
  unfolding theory_of
  the_kind n = refl

  pub the_operand : (n : ℕ) → (theory_of ws).operand n ≡ get_or ws (node_at n + 1) 0
  unfolding theory_of
  the_operand n = refl

  pub the_leaves : (n : ℕ) → (theory_of ws).leaves n ≡ chain ws (get_or ws (node_at n + 2) 0)
  unfolding theory_of
  the_leaves n = refl

  pub the_body : (p : ℕ) → (theory_of ws).body p ≡ get_or ws (producer_at ws p) 0
  unfolding theory_of
  the_body p = refl

  pub the_heads : (p : ℕ) → (theory_of ws).heads p ≡ chain ws (get_or ws (producer_at ws p + 1) 0)
  unfolding theory_of
  the_heads p = refl

-- what a reader of the graph's words finds, told where the links begin, is what the links have
module _ {ws : List ℕ} {from : ℕ} (at : LinksFrom ws from) where
  pub value_of_lem : (l : ℕ) {v : ℕ} → v ≡ value_in ws from l → 0 < l → v ≡ value_of ws l
  unfolding value_in
  value_of_lem l e some = let k : from + 2 * l - 2 ≡ link_at ws l = omega (arith, at.is) in e ∙ ap (λ (i : ℕ). get_or ws i 0) k

  pub next_of_lem : (l : ℕ) {v : ℕ} → v ≡ next_in ws from l → 0 < l → v ≡ next_of ws l
  unfolding next_in
  next_of_lem l e some = let k : from + 2 * l - 1 ≡ link_at ws l + 1 = omega (arith, at.is) in e ∙ ap (λ (i : ℕ). get_or ws i 0) k

  pub link_within : {l : ℕ} → length ws ≡ size_of ws → 0 < l → l ≤ get_or ws 4 0 → LinkIn ws from l
  link_within size some within = record { some = some; within = omega (arith, at.is) }

  pub link_in : {ed : Edition} → Accepted ed ws → {l : ℕ} → MeetsOnce ws l → (l ≡ 0 → ⊥) → LinkIn ws from l
  link_in acc e z = link_within acc.size (omega arith) (once_link ws e)
