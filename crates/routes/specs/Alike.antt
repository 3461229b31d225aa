-- Whether two policies are equal: all seven fields are.
use Rattle.std.specs.Prelude.{Bool, cond, ◌&&◌, ℕ, eqb}
use Rattle.routes.specs.declared.Policy.{Policy}

-- a preference flag as a record holds it
abbrev pub flag_byte : Bool → ℕ
flag_byte flag = cond flag 1 0

unfoldable pub same_policy : Policy → Policy → Bool
same_policy p q =
    eqb p.need q.need && (eqb p.bar q.bar && (eqb p.clear q.clear && (eqb p.set q.set
    && (eqb (flag_byte p.flag) (flag_byte q.flag) && (eqb p.preference q.preference && eqb p.added q.added)))))
