-- Keys in their order.
--     in_order     each of some keys once, in the order of keys
use Rattle.std.specs.Prelude.{List, map}
use Rattle.std.specs.FinMap.{from_entries, keys}
use Rattle.hx_model.specs.declared.key.Key.{Key}
use Rattle.hx_order.specs.KeyOrder.{key_cmp}

-- a key as an entry of a map that has nothing at it
abbrev pub entry_of : Key → Key × Unit {0}
entry_of k = (k, tt)

-- so that keys in another order are seen the same
abbrev pub in_order : List Key → List Key
in_order ks = keys (from_entries {R = key_cmp} (map entry_of ks))
