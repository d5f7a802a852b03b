use Rattle.std.proofs.Common.{◌≡◌, sym, subst, None}
use Rattle.cs_schema.specs.Streaming.{stream_fault}
use Rattle.cs_schema.specs.Sound.{IsSoundCatalog}
use Rattle.cs_schema.proofs.SoundStreams.{with_stream}
use Rattle.cs_schema.proofs.catalog.Catalog.create_stream.Goals as goal

pub invariant_of-self-2 : goal.invariant_of-self-2
invariant_of-self-2 c =
    subst (λ ss. IsSoundCatalog c.self.inside.tables ss) (sym c.in_ok-push.ensures.ok)
    (with_stream c.self.inside.tables c.self.inside.streams c.in_ok-made.made c.args.options.now
    (subst (λ ss. stream_fault c.self.inside.tables ss c.in_ok-made.made.name c.in_ok-made.made.watch c.args.options.now ≡ None) c.as_slice.ensures c.in_ok-check_stream.ensures) c.self.invariant)
