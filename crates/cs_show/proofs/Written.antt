-- Lines that are written one by one.
use Rattle.std.proofs.Common.{◌≡◌, ◌<◌, ◌≤◌, ℕ, zero, suc, List, [], ◌∷◌, ◌++◌, length, take, Option, None, Some, sym, ap, subst, ◌∙◌, append_assoc, append-nil, arith}
use Rattle.std.specs.Io.KnownBytes.{Appends}
use Rattle.std.proofs.lemmas.List.{take_all}
use Rattle.cs_link.specs.declared.reading.Step.{Step}
use Rattle.cs_steps.specs.Cursor.{IsAt}
use Rattle.cs_show.specs.Lines.{line_text, lines_text}
use Rattle.cs_show.specs.Written.{IsUnwritten, IsStepFault}
use Rattle.cs_show.specs.declared.shown.ShowFault.{ShowFault}
use Rattle.cs_show.specs.declared.shown.ShowFault.TheVariants.{Console, Memory}

-- nothing was written
pub none_written : (x : Option (List ℕ)) → Appends x x []
none_written None = tt
none_written (Some xs) = sym (append-nil xs)

appends_then : (u v w : Option (List ℕ)) (a b : List ℕ) → Appends u v a → Appends v w b → Appends u w (a ++ b)
appends_then None v w a b x y = tt
appends_then (Some xs) None w a b x y = absurd x
appends_then (Some xs) (Some ys) None a b x y = absurd y
appends_then (Some xs) (Some ys) (Some zs) a b x y = y ∙ ap (λ (t : List ℕ). t ++ b) x ∙ append_assoc xs a b

-- the lines of one step more
next_line : (steps : List Step) (k : ℕ) (step : Step) → IsAt steps k step → lines_text (take (suc k) steps) ≡ lines_text (take k steps) ++ line_text step
next_line [] k step at = absurd (omega (arith, at.0))
next_line (x ∷ xs) zero step at = append-nil (line_text x) ∙ ap line_text at.1
next_line (x ∷ xs) (suc k) step at =
    ap (λ t. line_text x ++ t) (next_line xs k step (omega (arith, at.0), at.1)) ∙ sym (append_assoc (line_text x) (lines_text (take k xs)) (line_text step))

pub more_written : (steps : List Step) (k : ℕ) (u v w : Option (List ℕ)) → Appends u v (lines_text (take k steps)) → (step : Step) × IsAt steps k step × Appends v w (line_text step) → Appends u w (lines_text (take (suc k) steps))
more_written steps k u v w before (step, at, after) = subst (Appends u w) (sym (next_line steps k step at)) (appends_then u v w (lines_text (take k steps)) (line_text step) before after)

pub all_written : (steps : List Step) (k : ℕ) (u v : Option (List ℕ)) → length steps ≤ k → Appends u v (lines_text (take k steps)) → Appends u v (lines_text steps)
all_written steps k u v le before = subst (λ l. Appends u v (lines_text l)) (take_all k steps le) before

-- a step that was not written
pub unwritten : (steps : List Step) (k : ℕ) (u v w : Option (List ℕ)) (before now end : ℕ) (fault : ShowFault) → k < length steps → Appends u v (lines_text (take k steps)) → now ≡ before
    → IsStepFault v w now end fault → IsUnwritten steps u w before end fault
unwritten steps k u v w before now end Console few lines calm bad = rw (sym calm) bad
unwritten steps k u v w before now end Memory few lines calm bad = (bad.0 ∙ calm, record { count = k; few = few; lines = subst (λ x. Appends u x (lines_text (take k steps))) (sym bad.1) lines })
