-- `serve` writes for all bytes what it makes of the first 65,537 (Inputs).
use Rattle.std.proofs.Common.{ap, ◌∙◌}
use Rattle.std.proofs.lemmas.Result.{on_ok_weaker}
use Rattle.session.specs.Sessions.{written_for}
use Rattle.session.proofs.Inputs.{served}
use Rattle.session.proofs.serve.Goals as goal

pub returns : goal.returns
returns g c =
    on_ok_weaker c.write_all.result
    (served _ _ (g.R.Read.remaining c.args.input) _ _ _ _ _ (ap g.R.Read.remaining c.take.ensures.inner) c.take.ensures.limit c.new-bytes.ensures.items
    c.in_ok-read_to_end.ensures.bytes (c.as_bytes.ensures.value ∙ c.in_ok-answers.ensures.answers ∙ ap written_for c.as_slice.ensures.value))
    c.write_all.ensures.bytes
