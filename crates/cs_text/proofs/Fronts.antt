-- The entries up to a place, of entries that fold.
use Rattle.std.proofs.Common.{◌≡◌, ◌≤◌, ◌<◌, ◌+◌, ℕ, List, [], ◌∷◌, ◌++◌, length, take, drop, get_or, sym, ap, subst, ◌∙◌, arith}
use Rattle.std.proofs.lemmas.List.{take_more, take_all, take-append-drop}
use Rattle.cs_types.specs.declared.names.Window.{Window}
use Rattle.cs_schedule.specs.declared.entry.Entry.{Entry}
use Rattle.cs_schedule.specs.declared.entry.Entry.TheVariants.{Begin, Opened, Progress, Finished}
use Rattle.cs_schedule.specs.Board.{Shown}
use Rattle.cs_schedule.specs.Fold.{DoFold}
use Rattle.cs_schedule.specs.Rows.{Folds, FoldsBehind}
use Rattle.cs_text.specs.Adding.{Tells}
use Rattle.cs_text.specs.Output.{output_of}

behind_front : (s e : ℕ) (done xs ys : List Entry) → FoldsBehind s e done (xs ++ ys) → FoldsBehind s e done xs
behind_front s e done [] ys h = tt
behind_front s e done (x ∷ xs) ys h = (h.0, behind_front s e (done ++ x ∷ []) xs ys h.1)

-- a front of entries that fold
pub folds_front : (w : Window) (xs ys : List Entry) → Folds w (xs ++ ys) → Folds w xs
folds_front w [] ys h = tt
folds_front w (x ∷ xs) ys h = (h.0, behind_front w.start w.end (x ∷ []) xs ys h.1)

window_in : Window → Entry → Window
window_in w (Begin u) = u
window_in w (Opened tokens) = w
window_in w (Progress t n cs) = w
window_in w (Finished t n cs xs) = w

-- entries begin one window
pub one_window : (v w : Window) (es : List Entry) → 0 < length es → Folds v es → Folds w es → v ≡ w
unfolding window_in
one_window v w [] some F G = absurd (omega (arith, some))
one_window v w (x ∷ es) some F G = ap (window_in v) (sym F.0 ∙ G.0)

pub begins : (w : Window) (es : List Entry) (x : Entry) → 0 < length es → x ≡ get_or es 0 x → Folds w es → x ≡ Begin w
begins w [] x some at F = absurd (omega (arith, some))
begins w (y ∷ es) x some at F = at ∙ F.0

-- with the entry at a place they fold as far
pub folds_to : (w : Window) (es : List Entry) (i : ℕ) (x : Entry) → i < length es → x ≡ get_or es i x → Folds w es → Folds w (take i es ++ x ∷ [])
folds_to w es i x inside at F =
    let more : take (i + 1) es ≡ take i es ++ x ∷ [] = take_more es i x inside ∙ ap (λ (y : Entry). take i es ++ y ∷ []) (sym at) in
    subst (Folds w) more (folds_front w (take (i + 1) es) (drop (i + 1) es) (subst (Folds w) (sym (take-append-drop (i + 1) es)) F))

pub take_next : (es : List Entry) (i : ℕ) (x : Entry) → i < length es → x ≡ get_or es i x → take i es ++ x ∷ [] ≡ take (i + 1) es
take_next es i x inside at = sym (take_more es i x inside ∙ ap (λ (y : Entry). take i es ++ y ∷ []) (sym at))

pub told_first : (es : List Entry) (w : Window) (x : Entry) → 0 < length es → x ≡ get_or es 0 x → x ≡ Begin w → take 1 es ≡ Begin w ∷ []
told_first [] w x some at is = absurd (omega (arith, some))
told_first (y ∷ es) w x some at is = ap (λ (z : Entry). z ∷ []) (sym at ∙ is)

-- the lines of all of them
pub told_whole : (b : Shown) (m : ℕ) (text : List ℕ) (es : List Entry) (i : ℕ) (w : Window) → length es ≤ i → 0 < length es → Tells b m text (take i es) → Folds w es → text ≡ output_of w es
told_whole b m text es i w last some T F =
    let all : take i es ≡ es = take_all i es last in
    let same : b.window ≡ w = one_window b.window w es some (subst (Folds b.window) all T.rows.folds) F in
    T.lines ∙ ap (output_of b.window) all ∙ ap (λ (u : Window). output_of u es) same

-- the entries up to a place and the one there fold in the board's window
pub goes_on : (b : Shown) (m : ℕ) (text : List ℕ) (es : List Entry) (i : ℕ) (x : Entry) → i < length es → x ≡ get_or es i x → Tells b m text (take i es) → DoFold es → Folds b.window (take i es ++ x ∷ [])
goes_on b m text es i x inside at T fold =
    let front : Folds fold.0 (take i es) = folds_front fold.0 (take i es) (drop i es) (subst (Folds fold.0) (sym (take-append-drop i es)) fold.1) in
    let same : b.window ≡ fold.0 = one_window b.window fold.0 (take i es) T.rows.begun T.rows.folds front in
    folds_to b.window es i x inside at (subst (λ v. Folds v es) (sym same) fold.1)
