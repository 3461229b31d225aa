-- What is written of the cutter's outcome is the fragment, or the line of a refusal (fragment_outputs).
use Rattle.cutting.proofs.TextLaws.{fragment_outputs}
use Rattle.cutting.proofs.text.put_fragment.Goals as goal

pub returns : goal.returns
returns c = record { count = search fragment_outputs; text = search fragment_outputs }
