-- A tree, level by level, and entries beside the members that they stand for.
use Rattle.std.proofs.Common.{◌≡◌, ℕ, List, [], ◌∷◌, ◌++◌, Vec, Global, Ordering, Less, Equal, Greater, nat_cmp, Option, Some, is_eq, true, false, refl, ap, ◌∙◌, rules}
use Rattle.std.specs.Cmp.Lexicographic.{slice_cmp}
use Rattle.std.specs.Ordering.{match_ordering}
use Rattle.serde_json.specs.Data.{Data, array, object, Members, put}
use Rattle.serde_json.specs.Find.{get_member}
use Rattle.cs_tree.specs.View.{view, items_view, members_view}
use Rattle.cs_tree.specs.Order.{Name, name_cmp, put_entry, put_all}
use Rattle.cs_tree.specs.declared.entries.Entry.{Entry}
use Rattle.cs_tree.specs.declared.tree.Tree.{Tree, Array, Object, the_lemmas}

pub view-Array : (v : Vec Tree Global) → view (Array v) ≡ array (items_view v.items)
view-Array v = search (rules, the_lemmas)

pub view-Object : (es : List (Entry Name Tree)) → view (Object es) ≡ object (members_view es)
view-Object es = search (rules, the_lemmas)

members_view-match_ordering : (o : Ordering) (a b c : List (Entry Name Tree)) → members_view (match_ordering o a b c) ≡ match_ordering o (members_view a) (members_view b) (members_view c)
members_view-match_ordering Less a b c = refl
members_view-match_ordering Equal a b c = refl
members_view-match_ordering Greater a b c = refl

members_view-put_entry : (e : Entry Name Tree) (es : List (Entry Name Tree)) → members_view (put_entry e es) ≡ put e.name.now (view e.tree) (members_view es)
members_view-put_entry e [] = refl
members_view-put_entry e (f ∷ es) = members_view-match_ordering (name_cmp e.name f.name) _ _ _ ∙ rw (members_view-put_entry e es)

-- the members, and then those of a text, one after another
abbrev pub puts : List (Entry Name Tree) → Members → Members
puts [] ms = ms
puts (e ∷ es) ms = puts es (put e.name.now (view e.tree) ms)

pub puts-push : (es : List (Entry Name Tree)) (e : Entry Name Tree) (ms : Members) → puts (es ++ e ∷ []) ms ≡ put e.name.now (view e.tree) (puts es ms)
puts-push [] e ms = refl
puts-push (f ∷ es) e ms = puts-push es e (put f.name.now (view f.tree) ms)

pub members_view-put_all : (es more : List (Entry Name Tree)) → members_view (put_all es more) ≡ puts more (members_view es)
members_view-put_all es [] = refl
members_view-put_all es (e ∷ more) = members_view-put_all (put_entry e es) more ∙ ap (puts more) (members_view-put_entry e es)

-- a member that has the name is the first that has it, and another is passed by
here : (o : Ordering) (d : Option Data) (t : Data) → is_eq o ≡ true → match_ordering o d (Some t) d ≡ Some t
here Less d t h = absurd (cc)
here Equal d t h = refl
here Greater d t h = absurd (cc)

passed : (o : Ordering) (d : Option Data) (t : Data) → is_eq o ≡ false → match_ordering o d (Some t) d ≡ d
passed Less d t h = refl
passed Equal d t h = absurd (cc)
passed Greater d t h = refl

pub member_here : (name : List ℕ) (e : Entry Name Tree) (es : List (Entry Name Tree)) → is_eq (slice_cmp nat_cmp name e.name.now) ≡ true → get_member name (members_view (e ∷ es)) ≡ Some (view e.tree)
member_here name e es h = here (slice_cmp nat_cmp name e.name.now) _ _ h

pub member_later : (name : List ℕ) (e : Entry Name Tree) (es : List (Entry Name Tree)) → is_eq (slice_cmp nat_cmp name e.name.now) ≡ false → get_member name (members_view (e ∷ es)) ≡ get_member name (members_view es)
member_later name e es h = passed (slice_cmp nat_cmp name e.name.now) _ _ h
