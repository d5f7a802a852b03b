use Rattle.std.proofs.Common.{rules, ◌≡◌, ◌∙◌, ap, sym, subst, ◌++◌, ◌∷◌, [], length, List, arith, append-nil, append_assoc}
use Rattle.std.proofs.lemmas.List.{length-append}
use Rattle.cs_txn.specs.declared.txn.Modification.{Modification}
use Rattle.cs_txn.specs.Places.{PlacesOf}
use Rattle.cs_txn.proofs.Steps.{put_places, all_put}
use Rattle.cs_txn.proofs.rows.put_all.Goals as goal

pub put-init : goal.put-init
put-init c =
    let P : List Modification → Type 0 = λ ms. PlacesOf ms c.args.rows.now in
    record {
      places = subst P (sym (append-nil c.args.items.now)) c.requires.places;
      room = search rules;
      at = omega arith;
      all = search rules;
    }

pub put-preserved : goal.put-preserved
put-preserved c =
    let i = c.put.invariant in
    let rest : c.put.key-iterator.rest.items ≡ c.in-Some.key ∷ c.next.new.self.rest.items = search rules in
    record {
      places = put_places c.put.rows c.insert.new.self c.args.items.now c.args.added.now c.args.keys.items c.put.yielded c.next.new.self.rest.items c.put.place c.in-Some.key c.requires.rows (ap (λ l. c.put.yielded ++ l) (sym rest) ∙ i.all) i.at i.places (λ q. search rules);
      room = omega (arith, i.room, ap length rest, c.insert.ensures.spare);
      at = omega (arith, i.at, length-append c.put.yielded (c.in-Some.key ∷ []));
      all = append_assoc c.put.yielded (c.in-Some.key ∷ []) c.next.new.self.rest.items ∙ ap (λ l. c.put.yielded ++ l) (sym rest) ∙ i.all;
    }

pub returns : goal.returns
returns c = all_put c.put.rows c.args.items.now c.args.added.now c.args.keys.items c.put.yielded c.put.key-iterator.rest.items c.requires.rows c.put.invariant.all (search rules) c.put.invariant.places
