-- What is told of the present READ, call by call.
use Rattle.std.proofs.Common.{◌≡◌, ℕ, ◌≤◌, List, [], ◌∷◌, ◌++◌, Option, Some, None, refl, ap, ◌∙◌, subst}
use Rattle.std.specs.Prelude.{Ok, Err, Result}
use Rattle.cs_records.specs.declared.faults.LineFault.{LineFault}
use Rattle.cs_link.specs.declared.batch.Known.{Known}
use Rattle.cs_link.specs.declared.batch.Limits.{Limits}
use Rattle.cs_link.specs.declared.reading.ReadArgs.{ReadArgs}
use Rattle.cs_link.specs.declared.reading.Step.{Step}
use Rattle.cs_link.specs.declared.refusal.LinkAnswer.{LinkAnswer}
use Rattle.cs_link.specs.declared.refusal.ReadRefusal.{ReadRefusal}
use Rattle.cs_link.specs.Calls.{begun, after_next, Opens, Goes}
use Rattle.cs_fetch.specs.Fetch.{Goes as On, outcome_of}
use Rattle.cs_fetch.specs.Made.{Presents, HasGiven, WasRefused, HadBadLine}
use Rattle.cs_link.specs.Reading.{Read}

pub presents_open : (before now : Option (Option Read)) (args : ReadArgs) (since moment : ℕ) (result : Result (Unit {0}) LinkAnswer) (u : Unit {0}) → since ≤ moment → Opens before now args moment result → result ≡ Ok u → Presents before now (HasGiven args since [])
presents_open None now args since moment result u l O h = tt
presents_open (Some before) now args since moment result u l O h = (begun args moment (Ok u), o, record { asked = refl; timely = l; taken = (u, refl); gave = refl; lines = refl })
  where
    o : Opens (Some before) now args moment (Ok u)
    o = subst (λ z. Opens (Some before) now args moment z) h O

pub presents_refused : (before now : Option (Option Read)) (args : ReadArgs) (moment : ℕ) (result : Result (Unit {0}) LinkAnswer) (refusal : ReadRefusal) → Opens before now args moment result → result ≡ Err (LinkAnswer.Refused refusal) → Presents before now (WasRefused args refusal)
presents_refused None now args moment result refusal O h = tt
presents_refused (Some before) now args moment result refusal O h = (begun args moment (Err (LinkAnswer.Refused refusal)), subst (λ z. Opens (Some before) now args moment z) h O, record { asked = refl; refused = refl })

module _ (before now after : Option (Option Read)) (args : ReadArgs) (since : ℕ) (done : List Step) (result : Result Step LinkAnswer) where
  pub presents_next : (step : Step) → Presents before now (HasGiven args since done) → Goes now after result → result ≡ Ok step → Presents before after (HasGiven args since (done ++ step ∷ []))
  presents_next step P G h = by before P
    where
      by : (o : Option (Option Read)) → Presents o now (HasGiven args since done) → Presents o after (HasGiven args since (done ++ step ∷ []))
      by None p = tt
      by (Some b) p =
          let g : after ≡ Some (Some (after_next p.0 (Ok step))) = subst (λ z. Goes (Some (Some p.0)) after z) h (subst (λ z. Goes z after result) p.1 G) in
          (after_next p.0 (Ok step), g, record { asked = p.2.asked; timely = p.2.timely; taken = p.2.taken; gave = ap (λ l. l ++ step ∷ []) p.2.gave; lines = p.2.lines })

  pub presents_bad : (known : Known) (limits : Limits) (number : ℕ) (fault : LineFault) → outcome_of args known limits done ≡ On → Presents before now (HasGiven args since done) → Goes now after result → result ≡ Err (LinkAnswer.BadLine number fault) → Presents before after (HadBadLine args known limits since number fault)
  presents_bad known limits number fault on P G h = by before P
    where
      by : (o : Option (Option Read)) → Presents o now (HasGiven args since done) → Presents o after (HadBadLine args known limits since number fault)
      by None p = tt
      by (Some b) p =
          let g : after ≡ Some (Some (after_next p.0 (Err (LinkAnswer.BadLine number fault)))) = subst (λ z. Goes (Some (Some p.0)) after z) h (subst (λ z. Goes z after result) p.1 G) in
          (after_next p.0 (Err (LinkAnswer.BadLine number fault)), g, record { asked = p.2.asked; timely = p.2.timely; goes = ap (outcome_of args known limits) p.2.gave ∙ on; line = refl })
