-- What the capture table says of captured changes.
use Rattle.std.proofs.Common.{◌≡◌, ◌∙◌, sym, ap, subst, refl, ℕ, List, [], ◌∷◌, ◌++◌, Some, None, cond, false, true, Bool, All, Contains, ◌&&◌, ◌||◌, ◌⊎◌, ◌↔◌, inl, inr}
use Rattle.std.specs.List.{filter, list_any}
use Rattle.std.specs.declared.option.Option.{Option}
use Rattle.std.proofs.lemmas.List.Folds.{list_any_none}
use Rattle.std.proofs.lemmas.List.Elements.{All-nil, All-cons, All-append, All-weaker, Contains-push, Contains-append_left, Contains-append_right, filter_passes}
use Rattle.cs_types.specs.declared.cells.Cell.{Cell}
use Rattle.cs_types.specs.declared.change.Kind.{Kind}
use Rattle.cs_types.specs.declared.change.Kind.TheVariants.{Insert, Update, Delete}
use Rattle.cs_types.specs.declared.names.CaptureType.{CaptureType}
use Rattle.cs_types.specs.declared.names.CaptureType.TheVariants.{OldAndNewValues, NewValues, NewRow, NewRowAndOldValues}
use Rattle.cs_records.specs.declared.captured.Captured.{Captured}
use Rattle.cs_types.specs.Names.{is_among}
use Rattle.cs_schema.specs.Tables.{table_named}
use Rattle.cs_schema.specs.Watching.{key_of, watches_table}
use Rattle.cs_schema.specs.declared.types.Table.{Table}
use Rattle.cs_schema.specs.declared.types.Watch.{Watch}
use Rattle.cs_schema.specs.declared.types.Stream.{Stream}
use Rattle.cs_txn.specs.declared.txn.Modification.{Modification}
use Rattle.cs_capture.specs.declared.table.Told.{Told}
use Rattle.cs_capture.specs.declared.table.Told.TheVariants.{Nothing, Watched, Modified}
use Rattle.cs_capture.specs.Table.{told_by}
use Rattle.cs_capture.specs.Captured.{is_watched, is_watched_in, is_set, is_told, told_cells, touches, is_captured, change_of, change_if, with_columns, captured}

given : (t : Option Table) (s : Stream) (m : Modification) (key : List (List ℕ)) (b : Bool) (c : Captured) → with_columns t s m (change_if b s key m) ≡ Some c → c.change ≡ change_of s key m
given t s m key false c e = absurd cc
given t s m key true c e = cc

-- a captured change is that of its modification
is_change : (tables : List Table) (s : Stream) (m : Modification) (c : Captured) → captured tables s m ≡ Some c → c.change ≡ change_of s (key_of (table_named m.row.table tables)) m
is_change tables s m c e = given (table_named m.row.table tables) s m (key_of (table_named m.row.table tables)) (is_captured s (key_of (table_named m.row.table tables)) m) c e

told_nothing : (watch : Watch) (key : List (List ℕ)) (m : Modification) (cells : List Cell) → told_cells Nothing watch key m cells ≡ []
told_nothing watch key m [] = refl
told_nothing watch key m (c ∷ cs) = told_nothing watch key m cs

delete_new : (capture : CaptureType) → (told_by capture Delete).new ≡ Nothing
delete_new OldAndNewValues = refl
delete_new NewValues = refl
delete_new NewRow = refl
delete_new NewRowAndOldValues = refl

insert_old : (capture : CaptureType) → (told_by capture Insert).old ≡ Nothing
insert_old OldAndNewValues = refl
insert_old NewValues = refl
insert_old NewRow = refl
insert_old NewRowAndOldValues = refl

pub no_new_cells : (tables : List Table) (stream : Stream) (m : Modification) (c : Captured) → captured tables stream m ≡ Some c → m.kind ≡ Delete → c.change.new ≡ []
no_new_cells tables s m c e k =
    let key : List (List ℕ) = key_of (table_named m.row.table tables) in
    let told : (told_by s.capture m.kind).new ≡ Nothing = ap (λ kind. (told_by s.capture kind).new) k ∙ delete_new s.capture in
    ap (λ d. d.new) (is_change tables s m c e) ∙ ap (λ t. told_cells t s.watch key m m.after) told ∙ told_nothing s.watch key m m.after

pub no_old_cells : (tables : List Table) (stream : Stream) (m : Modification) (c : Captured) → captured tables stream m ≡ Some c → m.kind ≡ Insert → c.change.old ≡ []
no_old_cells tables s m c e k =
    let key : List (List ℕ) = key_of (table_named m.row.table tables) in
    let told : (told_by s.capture m.kind).old ≡ Nothing = ap (λ kind. (told_by s.capture kind).old) k ∙ insert_old s.capture in
    ap (λ d. d.old) (is_change tables s m c e) ∙ ap (λ t. told_cells t s.watch key m m.before) told ∙ told_nothing s.watch key m m.before

first_true : (a b : Bool) → (a && b) ≡ true → a ≡ true
first_true true b e = refl
first_true false b e = e

told_is_watched : (told : Told) (watch : Watch) (key : List (List ℕ)) (m : Modification) (c : Cell) → is_told told watch key m c ≡ true → is_watched watch key m c.column ≡ true
told_is_watched Nothing watch key m c e = absurd cc
told_is_watched Watched watch key m c e = e
told_is_watched Modified watch key m c e = first_true (is_watched watch key m c.column) (is_set m.kind m.named c.column) e

all_watched : (told : Told) (watch : Watch) (key : List (List ℕ)) (m : Modification) (cs : List Cell) → All (λ (c : Cell). is_watched watch key m c.column ≡ true) (told_cells told watch key m cs)
all_watched told watch key m cs =
    All-weaker (λ (c : Cell). is_told told watch key m c ≡ true) (λ (c : Cell). is_watched watch key m c.column ≡ true) (told_is_watched told watch key m) (told_cells told watch key m cs) (filter_passes (is_told told watch key m) cs)

pub of_watched : (tables : List Table) (stream : Stream) (m : Modification) (c : Captured) → captured tables stream m ≡ Some c → All (λ (cell : Cell). is_watched_in tables stream m cell.column ≡ true) (c.change.new ++ c.change.old)
of_watched tables s m c e =
    let key : List (List ℕ) = key_of (table_named m.row.table tables) in
    let P : Cell → Type 0 = λ (cell : Cell). is_watched s.watch key m cell.column ≡ true in
    let change : c.change ≡ change_of s key m = is_change tables s m c e in
    subst (λ d. All P (d.new ++ d.old)) (sym change) (All-append P (change_of s key m).new (change_of s key m).old (all_watched (told_by s.capture m.kind).new s.watch key m m.after) (all_watched (told_by s.capture m.kind).old s.watch key m m.before))

kept : (p : Cell → Bool) (cs : List Cell) → All (λ (c : Cell). p c ≡ true → Contains (filter p cs) c) cs
kept p [] = All-nil (λ (x : Cell). p x ≡ true → Contains (filter p []) x)
kept p (c ∷ cs) = All-cons (λ (x : Cell). p x ≡ true → Contains (filter p (c ∷ cs)) x) c cs (at (p c)) (All-weaker (λ (x : Cell). p x ≡ true → Contains (filter p cs) x) (λ (x : Cell). p x ≡ true → Contains (filter p (c ∷ cs)) x) (λ x h e. more (p c) x (h e)) cs (kept p cs))
  where
    at : (b : Bool) → b ≡ true → Contains (cond b (c ∷ filter p cs) (filter p cs)) c
    at true e = Contains-append_left (c ∷ []) (filter p cs) c (Contains-push [] c)
    at false e = absurd cc

    more : (b : Bool) (x : Cell) → Contains (filter p cs) x → Contains (cond b (c ∷ filter p cs) (filter p cs)) x
    more true x h = Contains-append_right (c ∷ []) (filter p cs) x h
    more false x h = h

pub whole_row : (tables : List Table) (stream : Stream) (m : Modification) (c : Captured) → captured tables stream m ≡ Some c → stream.capture ≡ NewRow → m.kind ≡ Update → All (λ (cell : Cell). is_watched_in tables stream m cell.column ≡ true → Contains c.change.new cell) m.after
whole_row tables s m c e k u =
    let key : List (List ℕ) = key_of (table_named m.row.table tables) in
    let told : (told_by s.capture m.kind).new ≡ Watched = ap (λ capture. (told_by capture m.kind).new) k ∙ ap (λ kind. (told_by NewRow kind).new) u in
    let new : c.change.new ≡ told_cells Watched s.watch key m m.after = ap (λ d. d.new) (is_change tables s m c e) ∙ ap (λ t. told_cells t s.watch key m m.after) told in
    subst (λ cells. All (λ (cell : Cell). is_watched s.watch key m cell.column ≡ true → Contains cells cell) m.after) (sym new) (kept (is_told Watched s.watch key m) m.after)

not_captured : (t : Option Table) (s : Stream) (m : Modification) (key : List (List ℕ)) (b : Bool) → with_columns t s m (change_if b s key m) ≡ None → b ≡ false
not_captured t s m key true e = absurd cc
not_captured t s m key false e = refl

either_false : (a b : Bool) → (a && b) ≡ false → (a ≡ false) ⊎ (b ≡ false)
either_false true b e = inr e
either_false false b e = inl refl

and_false : (a : Bool) → (a && false) ≡ false
and_false true = refl
and_false false = refl

idle : (kind : Kind) (p : Cell → Bool) (cells : List Cell) → touches kind p cells ≡ false → (kind ≡ Update) × (list_any p cells ≡ false)
idle Insert p cells e = absurd cc
idle Update p cells e = (refl, e)
idle Delete p cells e = absurd cc

neither : (a b : Bool) → (a || b) ≡ false → (a ≡ false) × (b ≡ false)
neither true b e = absurd cc
neither false b e = (refl, e)

none_pass : (p : Cell → Bool) (cs : List Cell) → list_any p cs ≡ false → All (λ (c : Cell). p c ≡ false) cs
none_pass p [] e = All-nil (λ (x : Cell). p x ≡ false)
none_pass p (c ∷ cs) e = let both : (p c ≡ false) × (list_any p cs ≡ false) = neither (p c) (list_any p cs) e in All-cons (λ (x : Cell). p x ≡ false) c cs both.0 (none_pass p cs both.1)

unset : (kind : Kind) (w : Bool) (named : List (List ℕ)) (column : List ℕ) → kind ≡ Update → (w && is_set kind named column) ≡ false → w ≡ true → is_among column named ≡ false
unset Insert w named column u e h = absurd cc
unset Update true named column u e h = e
unset Update false named column u e h = absurd cc
unset Delete w named column u e h = absurd cc

set_off : (kind : Kind) (w : Bool) (named : List (List ℕ)) (column : List ℕ) → kind ≡ Update → (w ≡ true → is_among column named ≡ false) → (w && is_set kind named column) ≡ false
set_off Insert w named column u h = absurd cc
set_off Update true named column u h = h refl
set_off Update false named column u h = refl
set_off Delete w named column u h = absurd cc

still : (kind : Kind) (p : Cell → Bool) (cells : List Cell) → kind ≡ Update → list_any p cells ≡ false → touches kind p cells ≡ false
still Insert p cells u e = absurd cc
still Update p cells u e = e
still Delete p cells u e = absurd cc

-- whether a cell is of a modified column
abbrev modified : List Table → Stream → Modification → Cell → Bool
modified tables s m = is_told Modified s.watch (key_of (table_named m.row.table tables)) m

-- a cell that is of no watched column, or of one that is not named
abbrev IsUnnamed : List Table → Stream → Modification → Cell → Type 0
IsUnnamed tables s m cell = is_watched_in tables s m cell.column ≡ true → is_among cell.column m.named ≡ false

pub captured_none : (tables : List Table) (stream : Stream) (m : Modification) → (captured tables stream m ≡ None) ↔ ((watches_table stream.watch m.row.table ≡ false) ⊎ ((m.kind ≡ Update) × All (λ (cell : Cell). is_watched_in tables stream m cell.column ≡ true → is_among cell.column m.named ≡ false) (m.after ++ m.before)))
captured_none tables s m = (to, from)
  where
    to : captured tables s m ≡ None → (watches_table s.watch m.row.table ≡ false) ⊎ ((m.kind ≡ Update) × All (IsUnnamed tables s m) (m.after ++ m.before))
    to e = at (either_false (watches_table s.watch m.row.table) (touches m.kind (modified tables s m) (m.after ++ m.before)) (not_captured (table_named m.row.table tables) s m (key_of (table_named m.row.table tables)) (is_captured s (key_of (table_named m.row.table tables)) m) e))
      where
        at : (watches_table s.watch m.row.table ≡ false) ⊎ (touches m.kind (modified tables s m) (m.after ++ m.before) ≡ false) → (watches_table s.watch m.row.table ≡ false) ⊎ ((m.kind ≡ Update) × All (IsUnnamed tables s m) (m.after ++ m.before))
        at (inl h) = inl h
        at (inr h) =
            let both : (m.kind ≡ Update) × (list_any (modified tables s m) (m.after ++ m.before) ≡ false) = idle m.kind (modified tables s m) (m.after ++ m.before) h in
            inr (both.0, All-weaker (λ (cell : Cell). modified tables s m cell ≡ false) (IsUnnamed tables s m) (λ cell e w. unset m.kind (is_watched_in tables s m cell.column) m.named cell.column both.0 e w) (m.after ++ m.before) (none_pass (modified tables s m) (m.after ++ m.before) both.1))

    from : (watches_table s.watch m.row.table ≡ false) ⊎ ((m.kind ≡ Update) × All (IsUnnamed tables s m) (m.after ++ m.before)) → captured tables s m ≡ None
    from h = ap (λ b. with_columns (table_named m.row.table tables) s m (change_if b s (key_of (table_named m.row.table tables)) m)) (off h)
      where
        off : (watches_table s.watch m.row.table ≡ false) ⊎ ((m.kind ≡ Update) × All (IsUnnamed tables s m) (m.after ++ m.before)) → is_captured s (key_of (table_named m.row.table tables)) m ≡ false
        off (inl h) = ap (λ b. b && touches m.kind (modified tables s m) (m.after ++ m.before)) h
        off (inr h) = ap (λ b. watches_table s.watch m.row.table && b) (still m.kind (modified tables s m) (m.after ++ m.before) h.0 (list_any_none (modified tables s m) (m.after ++ m.before) (All-weaker (IsUnnamed tables s m) (λ (cell : Cell). modified tables s m cell ≡ false) (λ cell k. set_off m.kind (is_watched_in tables s m cell.column) m.named cell.column h.0 k) (m.after ++ m.before) h.1))) ∙ and_false (watches_table s.watch m.row.table)
