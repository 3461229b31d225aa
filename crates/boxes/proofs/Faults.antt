-- A fault is known by its finding: any two faults with the same finding are the same.
use mathlib.Core.Path.{◌≡◌, refl, sym, ap, ◌∙◌}
use mathlib.Core.Bool.{cond}
use Rattle.std.proofs.Common.{Option, Some, None}
use mathlib.Core.Option.{none, some}
use mathlib.Core.Option as maybe
use lib.Dec.{eqb}
use Rattle.routes.specs.declared.Route.{Route}
use Rattle.networks.specs.Judge.{Finding}
use Rattle.boxes.specs.OwnBox.{finding_of}
use Rattle.boxes.specs.declared.Fault.{Fault}
use Rattle.boxes.specs.declared.Fault.TheVariants.{Due, Promise, Demand}

-- the fault with a finding
unfoldable pub fault_with : maybe.Option (Finding Route) → Option Fault
fault_with none = None
fault_with (some f) = Some (cond (eqb f.number 31) (Due f.route) (cond (eqb f.number 32) (Promise f.route) (Demand f.route)))

pub finding_fault : (x : Option Fault) → fault_with (finding_of x) ≡ x
unfolding fault_with
finding_fault None = refl
finding_fault (Some (Due r)) = refl
finding_fault (Some (Promise r)) = refl
finding_fault (Some (Demand r)) = refl

-- a contract that gives the finding allows one fault
pub one_fault : (a : maybe.Option (Finding Route)) (x y : Option Fault) → finding_of x ≡ a → finding_of y ≡ a → x ≡ y
one_fault a x y p q = sym (finding_fault x) ∙ ap fault_with (p ∙ sym q) ∙ finding_fault y
