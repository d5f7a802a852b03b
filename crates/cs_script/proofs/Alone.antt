-- A text has one reading, a line does one thing, and a script makes one.
use Rattle.std.proofs.Common.{◌≡◌, ◌<◌, ◌≤◌, ℕ, zero, suc, pos, ◌*ℤ◌, ◌≤ℤ◌, List, [], ◌∷◌, ◌++◌, length, take, drop, Bool, true, false, MatchResult, Option, None, Some, Result, Ok, Err, inl, inr, refl, sym, ap, subst, ◌∙◌, append_assoc, append-nil, arith, take-append-drop}
use Rattle.std.proofs.lemmas.Int.{ints}
use Rattle.serde_json.specs.Data.{Data}
use Rattle.cs_types.specs.declared.moment.StampFault.{StampFault}
use Rattle.cs_types.specs.declared.moment.StampFault.TheVariants.{Shape, Range, TooFine}
use Rattle.cs_types.specs.Shape.{IsFaultPlace}
use Rattle.cs_types.specs.Moment.{IsMomentShape}
use Rattle.cs_types.specs.Stamp.{Spells, IsStampFault}
use Rattle.cs_ddl.specs.declared.tree.Statement.{Statement}
use Rattle.cs_ddl.specs.declared.fault.SyntaxFault.{SyntaxFault}
use Rattle.cs_ddl.specs.declared.fault.SyntaxFault.TheVariants as syntax
use Rattle.cs_ddl.specs.Token.{Lexeme}
use Rattle.cs_ddl.specs.Lex.{tokens_of}
use Rattle.cs_ddl.specs.Grammar.{Matches}
use Rattle.cs_ddl.specs.Grammars.{statements}
use Rattle.cs_ddl.specs.Text.{IsTextOf, IsFaultAt, Begins, StopsBefore, words, place_of}
use Rattle.cs_script.specs.declared.action.Action.{Action}
use Rattle.cs_script.specs.declared.action.Action.TheVariants as actions
use Rattle.cs_script.specs.declared.action.Word.{Word}
use Rattle.cs_script.specs.declared.fault.ScriptFault.{ScriptFault}
use Rattle.cs_script.specs.declared.fault.ScriptFault.TheVariants.{Line}
use Rattle.cs_script.specs.Readings.{Reading, both}
use Rattle.cs_script.specs.Members.{no_others}
use Rattle.cs_script.specs.Database.{Database, no_database}
use Rattle.cs_script.specs.Line.{at_text, built, word_of, line_members, action_reading, moment_of, moment_reading, moment_and_action, object_reading, tree_of}
use Rattle.cs_script.specs.Takes.{IsMomentOf, IsStatementOf, TellsStatement, stated, done_if, IsTakenTree, IsTaken, TakesIf, Takes, is_passed}
use Rattle.cs_script.specs.Script.{most_bytes, Runs, Makes, lines_of, ended_lines, cut_short}

take_less : (m n : ℕ) (xs : List ℕ) → m ≤ n → take m (take n xs) ≡ take m xs
take_less zero n xs le = refl
take_less (suc m) zero xs le = absurd (omega (arith, le))
take_less (suc m) (suc n) [] le = refl
take_less (suc m) (suc n) (x ∷ xs) le = ap (λ l. x ∷ l) (take_less m n xs (omega (arith, le)))

data Order (a b : ℕ) : Type 0 where
  below : a < b → Order a b
  same : a ≡ b → Order a b
  above : b < a → Order a b

order : (a b : ℕ) → Order a b
order zero zero = same refl
order zero (suc b) = below (omega arith)
order (suc a) zero = above (omega arith)
order (suc a) (suc b) = by (order a b)
  where
    by : Order a b → Order (suc a) (suc b)
    by (below h) = below (omega (arith, h))
    by (same h) = same (ap suc h)
    by (above h) = above (omega (arith, h))

-- ---- the place of a fault of shape

no_fault : (P : List ℕ → Type 0) (text : List ℕ) (place : ℕ) → IsFaultPlace P text place → P text → ⊥
no_fault P text place f p = by (order place (length text))
  where
    by : Order place (length text) → ⊥
    by (below h) = f.stops h (drop (suc place) text, subst P (sym (take-append-drop (suc place) text)) p)
    by (same h) = f.ends h p
    by (above h) = omega (arith, h, f.within)

not_earlier : (P : List ℕ → Type 0) (text : List ℕ) (p q : ℕ) → IsFaultPlace P text p → IsFaultPlace P text q → p < q → ⊥
not_earlier P text p q f g less =
    let front : take (suc p) text ++ drop (suc p) (take q text) ≡ take q text = ap (λ l. l ++ drop (suc p) (take q text)) (sym (take_less (suc p) q text (omega (arith, less)))) ∙ take-append-drop (suc p) (take q text) in
    f.stops (omega (arith, less, g.within))
    (drop (suc p) (take q text) ++ g.begins.0, subst P (sym (sym (append_assoc (take (suc p) text) (drop (suc p) (take q text)) g.begins.0) ∙ ap (λ l. l ++ g.begins.0) front)) g.begins.1)

same_place : (P : List ℕ → Type 0) (text : List ℕ) (p q : ℕ) → IsFaultPlace P text p → IsFaultPlace P text q → p ≡ q
same_place P text p q f g = by (order p q)
  where
    by : Order p q → p ≡ q
    by (below h) = absurd (not_earlier P text p q f g h)
    by (same h) = h
    by (above h) = absurd (not_earlier P text q p g f h)

-- ---- moments

abbrev OneStamp : Type 0
OneStamp = (text : List ℕ) (us other : ℕ) → Spells text us → Spells text other → us ≡ other

low_of : (us : ℕ) → pos 1 ≤ℤ pos us → (pos 1 *ℤ pos 1000) ≤ℤ (pos us *ℤ pos 1000)
low_of us h = omega (arith, ints, h)

high_of : (us : ℕ) → pos us ≤ℤ pos 253402300799999999 → (pos us *ℤ pos 1000) ≤ℤ (pos 253402300799999999 *ℤ pos 1000)
high_of us h = omega (arith, ints, h)

spelled_no_fault : (text : List ℕ) (us : ℕ) (fault : StampFault) → Spells text us → IsStampFault fault text → ⊥
spelled_no_fault text us (Shape place) s f = no_fault IsMomentShape text place f s.shape
spelled_no_fault text us Range s f = f.1 (record {
  civil = s.civil;
  low = subst (λ m. (pos 1 *ℤ pos 1000) ≤ℤ m) (sym s.number) (low_of us s.range.0);
  high = subst (λ m. m ≤ℤ (pos 253402300799999999 *ℤ pos 1000)) (sym s.number) (high_of us s.range.1);
})
spelled_no_fault text us TooFine s f = f.2 (pos us, s.number)

one_fault : (text : List ℕ) (a b : StampFault) → IsStampFault a text → IsStampFault b text → a ≡ b
one_fault text (Shape p) (Shape q) f g = ap Shape (same_place IsMomentShape text p q f g)
one_fault text (Shape p) Range f g = absurd (no_fault IsMomentShape text p f g.0)
one_fault text (Shape p) TooFine f g = absurd (no_fault IsMomentShape text p f g.0)
one_fault text Range (Shape q) f g = absurd (no_fault IsMomentShape text q g f.0)
one_fault text Range Range f g = refl
one_fault text Range TooFine f g = absurd (f.1 g.1)
one_fault text TooFine (Shape q) f g = absurd (no_fault IsMomentShape text q g f.0)
one_fault text TooFine Range f g = absurd (g.1 f.1)
one_fault text TooFine TooFine f g = refl

one_moment : OneStamp → (text : List ℕ) (a b : Result ℕ StampFault) → MatchResult a (Spells text) (λ fault. IsStampFault fault text) → MatchResult b (Spells text) (λ fault. IsStampFault fault text) → a ≡ b
one_moment one text (Ok us) (Ok other) f g = ap Ok (one text us other f g)
one_moment one text (Ok us) (Err fault) f g = absurd (spelled_no_fault text us fault f g)
one_moment one text (Err fault) (Ok us) f g = absurd (spelled_no_fault text us fault g f)
one_moment one text (Err a) (Err b) f g = ap Err (one_fault text a b f g)

-- ---- statements

abbrev OneTree : Type 0
OneTree = (bytes : List ℕ) (s r : Statement) → IsTextOf statements bytes s → IsTextOf statements bytes r → s ≡ r

words_of_both : (xs ys : List Lexeme) → words (xs ++ ys) ≡ words xs ++ words ys
words_of_both [] ys = refl
words_of_both (x ∷ xs) ys = ap (λ l. (x.kind, x.text) ∷ l) (words_of_both xs ys)

-- tokens that begin a text begin with ones that do
begins_less : (ts more : List Lexeme) → Begins statements (ts ++ more) → Begins statements ts
begins_less ts more b = record {
  spelling = b.spelling;
  bytes = b.bytes;
  spelled = b.spelled;
  more = words more ++ b.more;
  first = b.first ∙ ap (λ l. l ++ b.more) (words_of_both ts more) ∙ append_assoc (words ts) (words more) b.more;
}

text_no_fault : (bytes : List ℕ) (s : Statement) (place : ℕ) → IsTextOf statements bytes s → IsFaultAt statements bytes place → ⊥
text_no_fault bytes s place t f = by f.front f.rest f.whole f.here
  where
    by : (front rest : List Lexeme) → tokens_of bytes ≡ front ++ rest → StopsBefore statements front rest → ⊥
    by front [] whole here = here t.spelling s t.tree (subst (Matches (statements.parts t.spelling)) (whole ∙ append-nil front) t.spelled)
    by front (u ∷ rest) whole here = here (record {
      spelling = t.spelling;
      bytes = bytes;
      spelled = t.spelled;
      more = words rest;
      first = ap words (whole ∙ sym (append_assoc front (u ∷ []) rest)) ∙ words_of_both (front ++ u ∷ []) rest;
    })

record Longer (a b c : List Lexeme) : Type 0 where
  head : Lexeme
  rest : List Lexeme
  middle : List Lexeme
  behind : b ≡ head ∷ rest
  whole : c ≡ a ++ head ∷ middle

data Cut (a b c d : List Lexeme) : Type 0 where
  there : a ≡ c → b ≡ d → Cut a b c d
  later : Longer a b c → Cut a b c d
  sooner : Longer c d a → Cut a b c d

cut_of : (a b c d : List Lexeme) → a ++ b ≡ c ++ d → Cut a b c d
cut_of [] b [] d e = there refl e
cut_of [] b (t ∷ c) d e = later (record { head = t; rest = c ++ d; middle = c; behind = e; whole = refl })
cut_of (t ∷ a) b [] d e = sooner (record { head = t; rest = a ++ b; middle = a; behind = sym e; whole = refl })
cut_of (t ∷ a) b (u ∷ c) d e =
    let head : t ≡ u = cc in
    let tail : a ++ b ≡ c ++ d = cc in
    by head (cut_of a b c d tail)
  where
    by : t ≡ u → Cut a b c d → Cut (t ∷ a) b (u ∷ c) d
    by h (there x y) = there (λ i. h i ∷ x i) y
    by h (later l) = later (record { head = l.head; rest = l.rest; middle = l.middle; behind = l.behind; whole = λ i. sym h i ∷ l.whole i })
    by h (sooner l) = sooner (record { head = l.head; rest = l.rest; middle = l.middle; behind = l.behind; whole = λ i. h i ∷ l.whole i })

no_longer : (a b c : List Lexeme) → Longer a b c → StopsBefore statements a b → Begins statements c → ⊥
no_longer a b c l stops begins =
    let here : Begins statements (a ++ l.head ∷ []) → ⊥ = subst (StopsBefore statements a) l.behind stops in
    here (begins_less (a ++ l.head ∷ []) l.middle (subst (Begins statements) (l.whole ∙ sym (append_assoc a (l.head ∷ []) l.middle)) begins))

same_fault : (bytes : List ℕ) (p q : ℕ) → IsFaultAt statements bytes p → IsFaultAt statements bytes q → p ≡ q
same_fault bytes p q f g = by (cut_of f.front f.rest g.front g.rest (sym f.whole ∙ g.whole))
  where
    by : Cut f.front f.rest g.front g.rest → p ≡ q
    by (there x y) = f.place_is ∙ ap (place_of (length bytes)) y ∙ sym g.place_is
    by (later l) = absurd (no_longer f.front f.rest g.front l f.here g.before)
    by (sooner l) = absurd (no_longer g.front g.rest f.front l g.here f.before)

one_statement : OneTree → (text : List ℕ) (a b : Result Statement SyntaxFault) → IsStatementOf text a → IsStatementOf text b → a ≡ b
one_statement one text (Ok s) (Ok r) f g = ap Ok (one text s r f.0 g.0)
one_statement one text (Ok s) (Err (syntax.At place)) f g = absurd (text_no_fault text s place f.0 g.0)
one_statement one text (Ok s) (Err syntax.Memory) f g = absurd g.1
one_statement one text (Err (syntax.At place)) (Ok r) f g = absurd (text_no_fault text r place g.0 f.0)
one_statement one text (Err (syntax.At p)) (Err (syntax.At q)) f g = ap (λ n. Err (syntax.At n)) (same_fault text p q f.0 g.0)
one_statement one text (Err (syntax.At place)) (Err syntax.Memory) f g = absurd g.1
one_statement one text (Err syntax.Memory) b f g = absurd f.1

-- ---- lines

same_moment : OneStamp → (db : Database) (word : Word) (a b : Result ℕ StampFault) (o : Reading (List ℕ)) → IsMomentOf o a → IsMomentOf o b → moment_reading db word a o ≡ moment_reading db word b o
same_moment one db word a b (Err e) f g = refl
same_moment one db word a b (Ok text) f g = ap (moment_of db word) (one_moment one text a b f g)

same_object : OneStamp → (db : Database) (d : Data) (a b : Result ℕ StampFault) → IsMomentOf (at_text d) a → IsMomentOf (at_text d) b → object_reading db a d ≡ object_reading db b d
unfolding object_reading
same_object one db d a b f g =
    ap (λ m. moment_and_action (both (built d) (both m (both (action_reading db (word_of d) d) (no_others (line_members (word_of d)) d))))) (same_moment one db (word_of d) a b (at_text d) f g)

same_done : OneTree → (db : Database) (a b : Result Statement SyntaxFault) (o : Reading (ℕ × Action)) → TellsStatement o a → TellsStatement o b → done_if db a o ≡ done_if db b o
same_done one db a b (Err e) f g = refl
same_done one db a b (Ok (at, actions.Ddl text)) f g = ap (stated db at) (one_statement one text a b f g)
same_done one db a b (Ok (at, actions.Commit c)) f g = refl
same_done one db a b (Ok (at, actions.Reshape r)) f g = refl

same_taken : OneStamp → OneTree → (db : Database) (d : Data) (a b : Reading Database) → IsTakenTree db d a → IsTakenTree db d b → a ≡ b
same_taken stamp tree db d a b f g =
    let object = same_object stamp db d f.told g.told f.moment g.moment in
    let tells : TellsStatement (object_reading db g.told d) f.ddl = subst (λ o. TellsStatement o f.ddl) object f.statement in
    f.result ∙ ap (done_if db f.ddl) object ∙ same_done tree db f.ddl g.ddl (object_reading db g.told d) tells g.statement ∙ sym g.result

pub same_line : OneStamp → OneTree → (db : Database) (line : List ℕ) (a b : Reading Database) → Takes db line a → Takes db line b → a ≡ b
same_line stamp tree db line a b f g = by (is_passed line) f g
  where
    taken : (o : Option Data) → IsTaken db o a → IsTaken db o b → a ≡ b
    taken None f g = f ∙ sym g
    taken (Some d) f g = same_taken stamp tree db d a b f g

    by : (t : Bool) → TakesIf t db line a → TakesIf t db line b → a ≡ b
    by true f g = f ∙ sym g
    by false f g = taken (tree_of line) f g

-- ---- scripts

err_is : {A E : Type 0} (e f : E) → ◌≡◌ {A = Result A E} (Err e) (Err f) → e ≡ f
err_is e f h = cc

ok_is : {A E : Type 0} (a b : A) → ◌≡◌ {A = Result A E} (Ok a) (Ok b) → a ≡ b
ok_is a b h = cc

not_both : {A E : Type 0} (a : A) (e : E) → ◌≡◌ {A = Result A E} (Ok a) (Err e) → ⊥
not_both a e h = cc

same_runs : OneStamp → OneTree → (db : Database) (number : ℕ) (ls : List (List ℕ)) (a b : Result Database ScriptFault) → Runs db number ls a → Runs db number ls b → a ≡ b
same_runs stamp tree db number [] a b f g = f ∙ sym g
same_runs stamp tree db number (l ∷ ls) a b (inl (c, f, x)) (inl (d, g, y)) =
    x ∙ ap (λ e. Err (Line number e)) (err_is c d (same_line stamp tree db l (Err c) (Err d) f g)) ∙ sym y
same_runs stamp tree db number (l ∷ ls) a b (inl (c, f, x)) (inr (next, g, y)) = absurd (not_both next c (same_line stamp tree db l (Ok next) (Err c) g f))
same_runs stamp tree db number (l ∷ ls) a b (inr (next, f, x)) (inl (d, g, y)) = absurd (not_both next d (same_line stamp tree db l (Ok next) (Err d) f g))
same_runs stamp tree db number (l ∷ ls) a b (inr (next, f, x)) (inr (other, g, y)) =
    let same : next ≡ other = ok_is next other (same_line stamp tree db l (Ok next) (Ok other) f g) in
    same_runs stamp tree other (suc number) ls a b (subst (λ n. Runs n (suc number) ls a) same x) y

pub same_script : OneStamp → OneTree → (bytes : List ℕ) (a b : Result Database ScriptFault) → Makes bytes a → Makes bytes b → a ≡ b
same_script stamp tree bytes a b f g = by (order (length bytes) most_bytes)
  where
    short : length bytes ≤ most_bytes → a ≡ b
    short h = same_runs stamp tree no_database 1 (lines_of bytes) a b (f.whole h) (g.whole h)

    by : Order (length bytes) most_bytes → a ≡ b
    by (below h) = short (omega (arith, h))
    by (same h) = short (omega (arith, h))
    by (above h) =
        let (x, runs, is) = f.long h in
        let (y, more, also) = g.long h in
        is ∙ ap cut_short (same_runs stamp tree no_database 1 (ended_lines (take most_bytes bytes)) x y runs more) ∙ sym also
