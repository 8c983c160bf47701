use Rattle.std.proofs.Common.{sym}
use Rattle.hx_api.specs.Inside.{parts_of_version}
use Rattle.hx_api.proofs.Cuts.{whole_collection, whole_collection_in, whole_object, whole_object_in}
use Rattle.hx_api.proofs.parts.resource_behind.Goals as goal

pub returns-in-Collection : goal.returns-in-Collection
returns-in-Collection c = rw (c.in-Collection.is, c.collection.ensures) (sym (whole_collection (parts_of_version c.args.version) c.args.path.now))

pub returns-in_ok-plural-in-Object : goal.returns-in_ok-plural-in-Object
returns-in_ok-plural-in-Object c =
    let cut = c.in_ok-plural-in-Object in
    rw (c.in-Object.is, c.cluster_object.ensures, cut.ensures) (sym (whole_object (parts_of_version c.args.version) cut.plural.now cut.name.now))

pub returns-in_ok-ns-in-CollectionIn : goal.returns-in_ok-ns-in-CollectionIn
returns-in_ok-ns-in-CollectionIn c =
    let first = c.in_ok-path-in-CollectionIn in
    let cut = c.in_ok-ns-in-CollectionIn in
    rw (c.in-CollectionIn.is, c.collection_in.ensures, first.ensures, cut.ensures) (sym (whole_collection_in (parts_of_version c.args.version) first.field-0-0.now cut.ns.now cut.plural.now))

pub returns-in_ok-plural-in-ObjectIn : goal.returns-in_ok-plural-in-ObjectIn
returns-in_ok-plural-in-ObjectIn c =
    let first = c.in_ok-path-in-ObjectIn in
    let next = c.in_ok-ns-in-ObjectIn in
    let cut = c.in_ok-plural-in-ObjectIn in
    rw (c.in-ObjectIn.is, c.object_in.ensures, first.ensures, next.ensures, cut.ensures) (sym (whole_object_in (parts_of_version c.args.version) first.field-0-0.now next.ns.now cut.plural.now cut.name.now))
