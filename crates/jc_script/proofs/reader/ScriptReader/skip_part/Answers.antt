use Rattle.std.proofs.Common.{drop, ap, ◌∙◌, sym}
use Rattle.std.proofs.Math.Seq.{drop-length}
use Rattle.jc_script.proofs.Parts.{all_of, skipped_to}
use Rattle.jc_script.proofs.reader.ScriptReader.skip_part.Goals as goal

pub returns-in-Some-clause-skipped : goal.returns-in-Some-clause-skipped
returns-in-Some-clause-skipped c =
    skipped_to c.args.self.now.unread c.skip.new.self.unread c.in-Some.at (sym c.in-Some.ensures.place) c.skip.ensures.unread

pub returns-in-None-clause-skipped : goal.returns-in-None-clause-skipped
returns-in-None-clause-skipped c = (
  c.skip-in-None.ensures.unread ∙ ap (λ n. drop n c.args.self.now.unread) c.unread_len.ensures
      ∙ drop-length c.args.self.now.unread,
  all_of c.args.self.now.unread (sym c.in-None.ensures.place),
)
