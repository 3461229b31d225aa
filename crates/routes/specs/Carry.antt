-- What a wire makes of a route (document 01, 'Over a wire').
use Rattle.std.specs.Prelude.{ℕ, ◌+◌, ◌-◌, Bool, cond, not, [], ◌∷◌, eqb, ltb}
use Rattle.std.specs.Int.Bits.{bit_and, bit_or}
use Rattle.lists.specs.Test.{first_applying}
use Rattle.routes.specs.declared.Fields.{Fields}
use Rattle.routes.specs.declared.Policy.{Policy}
use Rattle.routes.specs.declared.Route.{Route}
use Rattle.routes.specs.declared.Route.TheVariants.{None, Held}

-- the highest cost that a wire may give
abbrev pub highest : ℕ
highest = 65535

-- the route lacks a tag of need
unfoldable pub lacks : Policy → Fields → Bool
lacks p f = not (eqb (bit_and f.tags p.need) p.need)

-- the route holds a tag of bar
unfoldable pub barred : Policy → Fields → Bool
barred p f = not (eqb (bit_and f.tags p.bar) 0)

-- the cost behind the wire is over the highest that a wire may give
unfoldable pub dear : ℕ → Policy → Fields → Bool
dear top p f = ltb top (f.cost + p.added)

-- the tags behind the wire: they lose clear and then gain set
unfoldable pub new_tags : Policy → ℕ → ℕ
new_tags p tags = bit_or (bit_and tags (65535 - p.clear)) p.set

-- the route behind the wire, where it gets through: the preference is replaced if the flag is set, the origin stays
unfoldable pub crossed : Policy → Fields → Fields
crossed p f = record {
  preference = cond p.flag p.preference f.preference;
  cost = f.cost + p.added;
  origin = f.origin;
  tags = new_tags p f.tags;
}

-- Need and bar look at the tags as they arrive. top is the highest cost that the wire may give.
unfoldable pub carried : ℕ → Policy → Route → Route
carried top p None = None
carried top p (Held f) =
    first_applying
    ((lacks p f, None) ∷
    (barred p f, None) ∷
    (dear top p f, None) ∷
    [])
    (Held (crossed p f))
