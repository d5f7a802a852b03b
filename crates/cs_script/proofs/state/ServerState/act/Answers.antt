use Rattle.std.proofs.Common.{◌≡◌, sym, subst, Ok, Err}
use Rattle.cs_script.specs.Readings.{not_memory}
use Rattle.cs_script.specs.Takes.{IsDone, committed, reshaped_in, txn_of}
use Rattle.cs_script.specs.Borders.{stream_place}
use Rattle.cs_script.proofs.Doing.{on_ok, if_err, commit_done, reshape_done}
use Rattle.cs_script.proofs.state.ServerState.act.Goals as goal

pub returns-in-Commit-clause-done : goal.returns-in-Commit-clause-done
returns-in-Commit-clause-done c =
    on_ok c.commit.result (λ e. subst (λ a. IsDone c.args.self.now c.args.at a (Ok c.commit.new.self)) (sym c.in-Commit.is) (commit_done c.args.self.now c.args.at c.in-Commit.commit (Ok c.commit.new.self) e)) c.commit.ensures.done

pub returns-in-Commit-clause-refused : goal.returns-in-Commit-clause-refused
returns-in-Commit-clause-refused c =
    if_err c.commit.result (λ e. not_memory e → committed c.args.self.now (txn_of c.args.at c.in-Commit.commit) ≡ Err e) (λ e. not_memory e → IsDone c.args.self.now c.args.at c.args.action (Err e))
    (λ e h n. subst (λ a. IsDone c.args.self.now c.args.at a (Err e)) (sym c.in-Commit.is) (commit_done c.args.self.now c.args.at c.in-Commit.commit (Err e) (h n))) c.commit.ensures.refused

pub returns-in-Reshape-clause-done : goal.returns-in-Reshape-clause-done
returns-in-Reshape-clause-done c =
    on_ok c.reshape.result (λ e. subst (λ a. IsDone c.args.self.now c.args.at a (Ok c.reshape.new.self)) (sym c.in-Reshape.is) (reshape_done c.args.self.now c.args.at c.in-Reshape.reshape (Ok c.reshape.new.self) e)) c.reshape.ensures.done

pub returns-in-Reshape-clause-refused : goal.returns-in-Reshape-clause-refused
returns-in-Reshape-clause-refused c =
    if_err c.reshape.result (λ e. not_memory e → reshaped_in c.args.self.now c.args.at c.in-Reshape.reshape (stream_place c.in-Reshape.reshape.stream c.args.self.now.streams) ≡ Err e)
    (λ e. not_memory e → IsDone c.args.self.now c.args.at c.args.action (Err e))
    (λ e h n. subst (λ a. IsDone c.args.self.now c.args.at a (Err e)) (sym c.in-Reshape.is) (reshape_done c.args.self.now c.args.at c.in-Reshape.reshape (Err e) (h n))) c.reshape.ensures.refused
