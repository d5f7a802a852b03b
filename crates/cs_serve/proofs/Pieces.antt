-- Lines that are held, and written in pieces.
use Rattle.std.proofs.Common.{◌≡◌, ℕ, List, [], ◌∷◌, ◌++◌, Option, None, Some, Ok, refl, sym, ap, subst, ◌∙◌, append_assoc, append-nil}
use Rattle.std.specs.Io.KnownBytes.{Appends, Keeps}
use Rattle.cs_types.specs.declared.memory.Memory.{Memory}
use Rattle.cs_link.specs.declared.reading.Step.{Step}
use Rattle.cs_read.specs.Content.{GivesNext}
use Rattle.cs_serve.specs.Answer.{line_text, lines_text}
use Rattle.cs_serve.specs.Sending.{Sends, SendsPart}

-- nothing was written
pub none_written : (x : Option (List ℕ)) → Appends x x []
none_written None = tt
none_written (Some xs) = sym (append-nil xs)

pub appends_then : (u v w : Option (List ℕ)) (a b : List ℕ) → Appends u v a → Appends v w b → Appends u w (a ++ b)
appends_then None v w a b x y = tt
appends_then (Some xs) None w a b x y = absurd x
appends_then (Some xs) (Some ys) None a b x y = absurd y
appends_then (Some xs) (Some ys) (Some zs) a b x y = y ∙ ap (λ (t : List ℕ). t ++ b) x ∙ append_assoc xs a b

-- nothing is written yet, and nothing is held
pub sends_none : (x : Option (List ℕ)) (all : List Step) → Sends x x [] all all
sends_none x all = record { sent = []; written = none_written x; text = refl }

-- all is written
pub sends_all : (u v : Option (List ℕ)) (all : List Step) → Sends u v [] all [] → Appends u v (lines_text all)
sends_all u v all s = subst (Appends u v) (sym (append-nil (s.sent ++ []) ∙ append-nil s.sent) ∙ s.text) s.written

-- no piece is there
pub keeps_held : (x : Option (List ℕ)) (held : List ℕ) → SendsPart x x held held
keeps_held x held = record { sent = []; written = none_written x; parts = refl }

-- all that is held is written
pub sends_held : (u v : Option (List ℕ)) (held : List ℕ) → Appends u v held → SendsPart u v held []
sends_held u v held a = record { sent = held; written = a; parts = sym (append-nil held) }

-- one line more is held
pub holds_line : {u v : Option (List ℕ)} {held now : List ℕ} {all rest : List Step} (step : Step) → Sends u v held all (step ∷ rest) → now ≡ held ++ line_text step → Sends u v now all rest
holds_line {held = held} {now = now} {rest = rest} step s is = record {
  sent = s.sent;
  written = s.written;
  text =
      ap (λ (t : List ℕ). (s.sent ++ t) ++ lines_text rest) is
      ∙ ap (λ (t : List ℕ). t ++ lines_text rest) (sym (append_assoc s.sent held (line_text step)))
      ∙ append_assoc (s.sent ++ held) (line_text step) (lines_text rest)
      ∙ s.text;
}

-- what is held is written in part
pub sends_more : {u v w : Option (List ℕ)} {held now : List ℕ} {all left : List Step} → Sends u v held all left → SendsPart v w held now → Sends u w now all left
sends_more {u = u} {v = v} {w = w} {now = now} {left = left} s p = record {
  sent = s.sent ++ p.sent;
  written = appends_then u v w s.sent p.sent s.written p.written;
  text =
      ap (λ (t : List ℕ). t ++ lines_text left) (append_assoc s.sent p.sent now)
      ∙ ap (λ (t : List ℕ). (s.sent ++ t) ++ lines_text left) (sym p.parts)
      ∙ s.text;
}

-- the next step is what was given
pub next_is : (o : Option Step) (step : Step) (before after : List Step) → GivesNext {E = Memory} (Ok o) before after → o ≡ Some step → before ≡ step ∷ after
next_is o step before after gives is = subst (λ (x : Option Step). GivesNext {E = Memory} (Ok x) before after) is gives

pub keeps_keeps : (a b c : Option (List ℕ)) → Keeps a b → Keeps b c → Keeps a c
keeps_keeps None b c h k = tt
keeps_keeps (Some a) None c h k = absurd h
keeps_keeps (Some a) (Some b) None h k = absurd k
keeps_keeps (Some a) (Some b) (Some c) h k = k ∙ h

pub sends_end : {u v : Option (List ℕ)} {held : List ℕ} {all left : List Step} → Sends u v held all left → left ≡ [] → held ≡ [] → Appends u v (lines_text all)
sends_end {u = u} {v = v} {held = held} {all = all} {left = left} s none empty =
    sends_all u v all (subst (λ (h : List ℕ). Sends u v h all []) empty (subst (λ (l : List Step). Sends u v held all l) none s))
