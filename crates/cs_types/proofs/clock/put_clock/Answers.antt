use Rattle.std.proofs.Common.{append_assoc}
use Rattle.cs_types.specs.Moment.{clock_text}
use Rattle.cs_types.proofs.clock.put_clock.Goals as goal

pub returns : goal.returns
unfolding clock_text
returns c =
    rw (
      c.in_ok-push_str-4.ensures.bytes,
      c.in_ok-put_fraction.ensures,
      c.in_ok-put_two-3.ensures,
      c.in_ok-push_str-3.ensures.bytes,
      c.in_ok-put_two-2.ensures,
      c.in_ok-push_str-2.ensures.bytes,
      c.in_ok-put_two.ensures,
      c.in_ok-push_str.ensures.bytes,
    ) (simp append_assoc)
