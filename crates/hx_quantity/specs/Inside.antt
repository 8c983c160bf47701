-- What private functions say.
use Rattle.hx_object.specs.Quantities.{Factor, Written}
use Rattle.hx_quantity.specs.declared.factor.Factor.{Factor as FactorOf}
use Rattle.hx_quantity.specs.declared.parts.Parts.{Parts}

-- the three parts of a text, as the code has them
abbrev pub written : Parts → Written
written parts = record { whole = parts.whole.now; fraction = parts.fraction.now; suffix = parts.suffix.now }

-- what a number is times, as the code has it
abbrev pub times : FactorOf → Factor
times factor = record { times = factor.times; over = factor.over }
