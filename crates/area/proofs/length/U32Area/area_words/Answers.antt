use Rattle.std.proofs.Common.{rules}
use mathlib.Core.Path.{◌≡◌, ap, ◌∙◌}
use native.Mathlib.Omega.{arith}
use lib.ListN.{length}
use Rattle.theory.specs.Sets.{sum_below}
use Rattle.theory.specs.Words.{chain, theory_of}
use Rattle.theory.specs.Accepted.{leaf_entries, head_entries}
use Rattle.graph.specs.Layout.{leaf_link, head_link}
use Rattle.area.proofs.length.U32Area.area_words.Goals as goal

-- what is counted over the nodes and over the producers
leaves : (c : goal.After-entries_of-heads) → c.entries_of-leaves.result ≡ leaf_entries (theory_of c.args.graph.now)
unfolding theory_of
leaves c =
    let ws = c.args.graph.now in
    c.entries_of-leaves.ensures (leaf_link ws) (search rules) ∙ ap (λ k. sum_below k (λ n. length (chain ws (leaf_link ws n)))) c.nodes-2.ensures

heads : (c : goal.After-entries_of-heads) → c.entries_of-heads.result ≡ head_entries (theory_of c.args.graph.now)
unfolding theory_of
heads c =
    let ws = c.args.graph.now in
    c.entries_of-heads.ensures (head_link ws) (search rules) ∙ ap (λ k. sum_below k (λ p. length (chain ws (head_link ws p)))) c.producers-2.ensures

pub overflow_add-result-2 : goal.overflow_add-result-2
overflow_add-result-2 c = omega (arith, leaves c, heads c, c.requires)

pub overflow_mul-result-2 : goal.overflow_mul-result-2
overflow_mul-result-2 c = omega (arith, leaves c, heads c, c.requires)

pub overflow_add-result-3 : goal.overflow_add-result-3
overflow_add-result-3 c = omega (arith, leaves c, heads c, c.requires)

pub returns : goal.returns
unfolding theory_of
returns c = omega (arith, leaves c, heads c, c.atoms.ensures, c.nodes.ensures, c.producers.ensures)
