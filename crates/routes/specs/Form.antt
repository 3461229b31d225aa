-- A route and a policy as bytes (document 01, 'Routes and wires'). A route's width is w: a present byte, w - 9 zero bytes, and the
-- fields in the last eight. In records of version 1 the width is 9.
use Rattle.std.specs.Prelude.{ℕ, ◌+◌, ◌-◌, Bool, cond, ◌&&◌, List, [], ◌∷◌, ◌++◌, eqb, leb, get_or, replicate}
use Rattle.lists.specs.Rows.{laid_rows}
use Rattle.numbers.specs.BigEndian.{u16_at, u16_bytes}
use Rattle.routes.specs.declared.Fields.{Fields}
use Rattle.routes.specs.declared.Policy.{Policy}
use Rattle.routes.specs.declared.Route.{Route}
use Rattle.routes.specs.declared.Route.TheVariants.{None, Held}
use Rattle.numbers.specs.Zeros.{zeros}

-- preference, cost, origin, tags
unfoldable pub fields_at : List ℕ → ℕ → Fields
fields_at b o = record { preference = u16_at b o; cost = u16_at b (o + 2); origin = u16_at b (o + 4); tags = u16_at b (o + 6) }

unfoldable pub fields_bytes : Fields → List ℕ
fields_bytes f = laid_rows u16_bytes (f.preference ∷ f.cost ∷ f.origin ∷ f.tags ∷ [])

-- the route of w bytes at an offset
unfoldable pub route_at : ℕ → List ℕ → ℕ → Route
route_at w b o = cond (eqb (get_or b o 0) 0) None (Held (fields_at b (o + 1 + (w - 9))))

-- no route is w zero bytes
unfoldable pub route_bytes : ℕ → Route → List ℕ
route_bytes w None = replicate w 0
route_bytes w (Held f) = 1 ∷ (replicate (w - 9) 0 ++ fields_bytes f)

-- the present byte is 0 and only zeros follow it, or it is 1
unfoldable pub route_formed : ℕ → List ℕ → ℕ → Bool
route_formed w b o = cond (eqb (get_or b o 0) 0) (zeros b (o + 1) (w - 1)) (eqb (get_or b o 0) 1 && zeros b (o + 1) (w - 9))

-- the policy of 13 bytes at an offset: need, bar, clear, set, preference flag, preference, cost added
unfoldable pub policy_at : List ℕ → ℕ → Policy
policy_at b o = record {
  need = u16_at b o;
  bar = u16_at b (o + 2);
  clear = u16_at b (o + 4);
  set = u16_at b (o + 6);
  flag = eqb (get_or b (o + 8) 0) 1;
  preference = u16_at b (o + 9);
  added = u16_at b (o + 11);
}

unfoldable pub policy_bytes : Policy → List ℕ
policy_bytes p =
    laid_rows u16_bytes (p.need ∷ p.bar ∷ p.clear ∷ p.set ∷ [])
    ++ (cond p.flag 1 0 ∷ laid_rows u16_bytes (p.preference ∷ p.added ∷ []))

-- a preference flag and the preference behind it: the flag is 0 and the preference is 0, or the flag is 1
unfoldable pub preference_formed : List ℕ → ℕ → Bool
preference_formed b o = cond (eqb (get_or b o 0) 0) (eqb (u16_at b (o + 1)) 0) (eqb (get_or b o 0) 1)

-- a policy's preference is well formed, and it adds at least 1 (document 02, K1), so that two boxes cannot hold a route that neither
-- started, each by quoting the other
unfoldable pub policy_formed : List ℕ → ℕ → Bool
policy_formed b o = preference_formed b (o + 8) && leb 1 (u16_at b (o + 11))
