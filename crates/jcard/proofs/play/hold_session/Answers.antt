use Rattle.jcard.proofs.play.hold_session.Goals as goal

pub returns-in-Ok-clause-held : goal.returns-in-Ok-clause-held
returns-in-Ok-clause-held g c = λ bytes before is known. record {
  failed = _;
  short = _;
  held = (rw (c.new-source.ensures.files, c.new-source.ensures.failures, c.new-source.ensures.shortages)
      at c.in-Ok.ensures.held) bytes before is known;
}

pub returns-clause-held : goal.returns-clause-held
returns-clause-held g c = λ bytes before is known. record {
  failed = _;
  short = _;
  held = (rw (c.new-source.ensures.files, c.new-source.ensures.failures, c.new-source.ensures.shortages)
      at c.in-Err.ensures.held) bytes before is known;
}
