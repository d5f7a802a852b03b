-- What the generator's command prints, this project's own.
use Rattle.std.specs.Prelude.{◌≡◌, ◌<◌, ◌-◌, ℕ, List, ◌++◌, codes, decimal, length, slice_get, Ok, Some, ⊤}
use Rattle.cs_types.specs.declared.names.Window.{Window}
use Rattle.cs_schema.specs.declared.types.Stream.{Stream}
use Rattle.cs_partitions.specs.Layout.{StreamParts}
use Rattle.cs_generator.specs.Generated.{script_text, first_stamp, end_stamp}
use Rattle.cs_link.specs.declared.refusal.ReadRefusal.{ReadRefusal}
use Rattle.cs_output.specs.Output.{IsComplete}
use Rattle.cs_schedule.specs.declared.entry.Entry.{Entry}
use Rattle.cs_script.specs.Database.{Database}
use Rattle.cs_script.specs.Script.{Makes}
use Rattle.cs_follow.specs.declared.outcome.Outcome.TheVariants.{Ended}
use Rattle.cs_follow.specs.declared.outcome.Pace.{Pace}
use Rattle.cs_text.specs.Output.{output_of}
use Rattle.cs_tool.specs.Answers.{IsBadText}
use Rattle.cs_tool.specs.Database.{IsStreamIn, wanted_in, IsBadScript, IsPassed, IsBarred}
use Rattle.cs_tool.specs.Journal.{StopsIn}
use Rattle.cs_tool.specs.declared.status.Status.{Status}
use Rattle.cs_tool.specs.declared.status.Status.TheVariants.{RetentionPassed, Refused, BadScript, BadOutput, Memory}

-- the stream of a generated script, and the window of its commits
abbrev pub generated_window : Window
generated_window = record { stream = codes "G"; start = first_stamp; end = end_stamp }

-- a stream of this name and its layout stand at one place
pub record IsPlacedIn (db : Database) (name : List ℕ) (s : Stream) (l : StreamParts) : Type 0 where
  pub place : ℕ
  pub stream : slice_get db.streams place ≡ Some s
  pub named : s.name ≡ name
  pub layout : slice_get db.layouts place ≡ Some l

-- the numbers of commits, of wanted changes and of parts, and that the output of each order is complete
abbrev pub summary_text : ℕ → ℕ → ℕ → List ℕ
summary_text commits changes parts =
    codes "gen " ++ (decimal commits ++ (codes " commits " ++ (decimal commits ++ (codes " changes " ++ (decimal changes ++ (codes " parts " ++ (decimal parts
    ++ codes "\norder 0 Complete\norder 1 Complete\norder 2 Complete\n0 Ended\n")))))))

-- a follower of the window, over the server of the database at the window's end, has ended with these entries
abbrev pub HasEndedWith : Database → Window → List Entry → Type 0
HasEndedWith db w es = (pace : Pace) × StopsIn db w pace w.end es Ended

-- it has ended, and its output is complete
pub record IsAudited (db : Database) (w : Window) (s : Stream) : Type 0 where
  pub entries : List Entry
  pub ended : HasEndedWith db w entries
  pub complete : IsComplete (output_of w entries) (wanted_in db s w.start w.end) w.end

-- the output of a follower that has ended, which is what its entries tell, and is complete
pub record IsLeftAtEnd (db : Database) (w : Window) (s : Stream) (text : List ℕ) : Type 0 where
  pub entries : List Entry
  pub ended : HasEndedWith db w entries
  pub text_is : text ≡ output_of w entries
  pub complete : IsComplete text (wanted_in db s w.start w.end) w.end

-- the summary of the script of so many commits; the output of each order was audited as complete
pub record IsSummary (commits : ℕ) (text : List ℕ) : Type 0 where
  pub db : Database
  pub made : Makes (script_text commits) (Ok db)
  pub stream : Stream
  pub parts : StreamParts
  pub placed : IsPlacedIn db (codes "G") stream parts
  pub audited : IsAudited db generated_window stream
  pub text_is : text ≡ summary_text commits (length (wanted_in db stream first_stamp end_stamp)) (length parts.parts)

-- the output of a window was not audited as complete: its start is not kept any more, or this line of what a follower left is none
abbrev pub IsAuditFault : Database → Window → Stream → Status → Type 0
IsAuditFault db w s (RetentionPassed earliest) = (earliest ≡ w.end - s.retention_us) × (w.start < earliest)
IsAuditFault db w s (BadOutput line) = (entries : List Entry) × HasEndedWith db w entries × IsBadText line (output_of w entries)
IsAuditFault db w s Memory = ⊤
IsAuditFault db w s _ = ⊥

-- the generated script makes a database of which this holds
abbrev pub OnGenerated : ℕ → (Database → Type 0) → Type 0
OnGenerated commits P = (db : Database) × Makes (script_text commits) (Ok db) × P db

-- the generated script has no stream of its name, or one that was created behind the window's start
abbrev pub IsRefusedGenerated : ℕ → ReadRefusal → Type 0
IsRefusedGenerated commits refusal = OnGenerated commits (λ db. IsBarred db generated_window refusal)

-- at the window's end its stream keeps nothing of its start any more
abbrev pub IsPassedGenerated : ℕ → ℕ → Type 0
IsPassedGenerated commits earliest = OnGenerated commits (λ db. IsPassed db generated_window end_stamp earliest)

-- this line of what a follower left is none
abbrev pub IsBadGenerated : ℕ → ℕ → Type 0
IsBadGenerated commits line = OnGenerated commits (λ db. (s : Stream) × IsStreamIn db (codes "G") s × (entries : List Entry) × HasEndedWith db generated_window entries × IsBadText line (output_of generated_window entries))

-- no summary was made
abbrev pub IsGenStatus : ℕ → Status → Type 0
IsGenStatus commits (BadScript line cause) = IsBadScript line cause (script_text commits)
IsGenStatus commits (Refused refusal) = IsRefusedGenerated commits refusal
IsGenStatus commits (RetentionPassed earliest) = IsPassedGenerated commits earliest
IsGenStatus commits (BadOutput line) = IsBadGenerated commits line
IsGenStatus commits Memory = ⊤
IsGenStatus commits _ = ⊥
