-- The remainder of a bound after a part of it has been reached: a sum reaches the bound if its second part reaches the
-- remainder after the first.
use Rattle.std.specs.Prelude.{◌-◌}
use Rattle.cost.specs.Distances.{Distance, Finite, Infinite}

-- nothing remains after an infinite part, and the infinite bound remains after a finite one
abbrev pub rest_of : Distance → Distance → Distance
rest_of bound Infinite = Finite 0
rest_of Infinite (Finite n) = Infinite
rest_of (Finite m) (Finite n) = Finite (m - n)
