use Rattle.finishing.proofs.CursorLaws.{node_low}
use Rattle.finishing.proofs.PlaceLaws.{atoms_are}
use Rattle.finishing.proofs.PassedLaws.{top_under}
use Rattle.finishing.proofs.look.Goals as goal

pub node_kind-requires : goal.node_kind-requires
node_kind-requires g c = (c.requires.0, node_low _ c.requires.0 (top_under c.requires.1.2) (atoms_are c.requires.1.2.walking.ready.based) c.if-v-b.false)
