-- The entries begin at 7, each as wide as its lead and its route.
use Rattle.layout.proofs.CodeLaws.{entry_offset_lem}
use Rattle.layout.proofs.offsets.entry_offset.Goals as goal

pub returns : goal.returns
returns c = search entry_offset_lem
