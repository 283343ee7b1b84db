use Rattle.buffer_frames.proofs.Hints.{tried_hint}
use Rattle.buffer_frames.proofs.Keeps.{and_loaded, keeps_on, ready_keeps, ready_loaded}
use Rattle.buffer_frames.proofs.hinting.try_hint.Goals as goal

pub try_hinted-requires-clause-new : goal.try_hinted-requires-clause-new
try_hinted-requires-clause-new g c = c.holds.ensures.none c.if-holds.false

pub returns-clause-did : goal.returns-clause-did
returns-clause-did g c = tried_hint _ _ _ c.in-Some.frame _ c.args.seat.now.me.0 c.load_hint.new.seat.me.0 c.try_hinted.new.seat.me.0 c.in-Some.ensures.did (c.holds.ensures.none c.if-holds.false) c.try_hinted.result c.try_hinted.ensures.frame c.try_hinted.ensures.did

pub returns-in_default-clause-keeps : goal.returns-in_default-clause-keeps
returns-in_default-clause-keeps g c = and_loaded _ _ _ (ready_keeps c.requires.ready) c.load_hint.ensures.seat c.load_hint.ensures.did

pub returns-then-holds-clause-keeps : goal.returns-then-holds-clause-keeps
returns-then-holds-clause-keeps g c = and_loaded _ _ _ (ready_keeps c.requires.ready) c.load_hint.ensures.seat c.load_hint.ensures.did

pub try_hinted-requires-clause-ready : goal.try_hinted-requires-clause-ready
try_hinted-requires-clause-ready g c = ready_loaded _ _ _ c.requires.ready c.load_hint.ensures.seat c.load_hint.ensures.did

pub returns-clause-keeps : goal.returns-clause-keeps
returns-clause-keeps g c = keeps_on (and_loaded _ _ _ (ready_keeps c.requires.ready) c.load_hint.ensures.seat c.load_hint.ensures.did) c.try_hinted.ensures.keeps
