use Rattle.std.proofs.Common.{rules, ◌∙◌, ◌≡◌, subst, List, [], ◌∷◌, ◌++◌}
use Rattle.cs_schema.specs.declared.types.Table.{Table}
use Rattle.cs_schema.specs.Tables.{PlacesOf}
use Rattle.cs_schema.proofs.Places.{places_more}
use Rattle.cs_schema.proofs.tables.Tables.push.Goals as goal

pub invariant_of-self-2 : goal.invariant_of-self-2
invariant_of-self-2 c =
    let before : PlacesOf c.self.inside.list.items c.room.new.places = λ q. c.room.ensures.same q ∙ c.self.invariant q in
    let after : PlacesOf (c.self.inside.list.items ++ c.args.table ∷ []) c.put.new.places = places_more c.room.new.places c.put.new.places c.self.inside.list.items c.args.table before (λ q. search rules) in
    let is : c.self.inside.list.items ++ c.args.table ∷ [] ≡ c.push.new.self.items = search rules in
    let P : List Table → Type 0 = λ xs. PlacesOf xs c.put.new.places in subst P is after
