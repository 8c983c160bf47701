use Rattle.std.proofs.Common.{rules, ◌≡◌, ◌++◌, [], ◌∷◌, None, false, is_some, if◌then◌else◌, replicate, ap, sym, subst, ◌∙◌}
use Rattle.std.specs.List.{IsDistinct, list_any}
use Rattle.std.specs.Str.{bytes_eq}
use Rattle.hx_quota.specs.PlaceRows.{PlacesView, Rows, Ups, Names, linked, joined, place_at, IsTable, AreUps}
use Rattle.hx_quota.proofs.Joined.{found_keys, table_pushed, joined_push}
use Rattle.hx_quota.proofs.Linked.{keys_linked, linked_push, ups_push}
use Rattle.hx_quota.proofs.place_table.PlaceTable.insert.Goals as goal

abbrev zeros : Rows
zeros = replicate 15 0 ∷ []

-- the names are then those before, and the new one
named : (c : goal.After-push-3) → c.insert.new.self.keys ≡ c.self.inside.names.keys ++ c.args.name ∷ []
named c =
    let t = c.self.inside in
    let links = linked t.names.keys t.names.keys t.ups.items in
    let away : list_any (bytes_eq c.args.name) t.names.keys ≡ false =
    sym (found_keys links t.own.items t.sums.rows t.names.keys (keys_linked t.names.keys t.names.keys t.ups.items) c.args.name)
    ∙ ap is_some (subst (λ (v : PlacesView). place_at v.entries c.args.name ≡ None) (sym c.self.view_is) c.requires.absent) in
    let put = rw c.unwrap-added.ensures at c.insert.ensures.keys in
    put ∙ ap (λ b. if b then t.names.keys else t.names.keys ++ c.args.name ∷ []) away

-- and so are the links
links_then : (c : goal.After-push-3) → linked c.insert.new.self.keys c.insert.new.self.keys (c.self.inside.ups.items ++ None ∷ [])
    ≡ linked c.self.inside.names.keys c.self.inside.names.keys c.self.inside.ups.items ++ (c.args.name, None) ∷ []
links_then c =
    let t = c.self.inside in
    ap (λ (ns : Names). linked ns ns (t.ups.items ++ None ∷ [])) (named c) ∙ linked_push t.names.keys t.ups.items c.args.name c.self.invariant.1

pub invariant_of-self : goal.invariant_of-self
invariant_of-self c =
    let t = c.self.inside in
    let links = linked t.names.keys t.names.keys t.ups.items in
    let new = c.insert.new.self.keys in
    let name = c.args.name in
    let own : c.push_reserved.new.self.items ≡ t.own.items ++ zeros = search rules in
    let ups : c.push.new.self.items ≡ t.ups.items ++ None ∷ [] = search rules in
    let rings : c.push-3.new.self.items ≡ t.rings.items ++ None ∷ [] = search rules in
    let new_links = linked new new (t.ups.items ++ None ∷ []) in
    let distinct = subst (λ (ks : Names). IsDistinct bytes_eq ks) (sym (keys_linked new new (t.ups.items ++ None ∷ []))) c.insert.ensures.unique in (
      subst (λ (us : Ups). IsTable (linked new new us) c.push_reserved.new.self.items c.push-2.new.self.rows) (sym ups)
          (subst (λ (rows : Rows). IsTable new_links c.push_reserved.new.self.items rows) (sym c.push-2.ensures.rows)
          (subst (λ (rows : Rows). IsTable new_links rows (t.sums.rows ++ zeros)) (sym own)
          (table_pushed links new_links t.own.items t.sums.rows name None (replicate 15 0) (replicate 15 0) c.self.invariant.0 (links_then c) distinct))),
      subst (λ (us : Ups). AreUps new us) (sym ups) (subst (λ (ns : Names). AreUps ns (t.ups.items ++ None ∷ [])) (sym (named c)) (ups_push t.names.keys t.ups.items name c.self.invariant.1)),
      subst (λ (us : Ups). AreUps new us) (sym rings) (subst (λ (ns : Names). AreUps ns (t.rings.items ++ None ∷ [])) (sym (named c)) (ups_push t.names.keys t.rings.items name c.self.invariant.2)),
    )

pub returns-clause-entries : goal.returns-clause-entries
returns-clause-entries c =
    let t = c.self.inside in
    let links = linked t.names.keys t.names.keys t.ups.items in
    let own : c.push_reserved.new.self.items ≡ t.own.items ++ zeros = search rules in
    let ups : c.push.new.self.items ≡ t.ups.items ++ None ∷ [] = search rules in
    let whole = c.push-2.ensures.rows in
    rw (← c.self.view_is)
    ((λ i. joined (linked c.insert.new.self.keys c.insert.new.self.keys (ups i)) (own i) (whole i)) ∙ ap (λ xs. joined xs (t.own.items ++ zeros) (t.sums.rows ++ zeros)) (links_then c)
    ∙ joined_push links t.own.items t.sums.rows c.self.invariant.0.own c.self.invariant.0.whole c.args.name None (replicate 15 0) (replicate 15 0))

pub returns-clause-rings : goal.returns-clause-rings
returns-clause-rings c =
    let t = c.self.inside in
    let rings : c.push-3.new.self.items ≡ t.rings.items ++ None ∷ [] = search rules in
    rw (← c.self.view_is)
    (ap (linked c.insert.new.self.keys c.insert.new.self.keys) rings ∙ ap (λ (ns : Names). linked ns ns (t.rings.items ++ None ∷ [])) (named c) ∙ linked_push t.names.keys t.rings.items c.args.name c.self.invariant.2)
