-- What a pass keeps over no step, and over steps one after another.
use Rattle.std.proofs.Common.{refl, ◌∙◌}
use Rattle.frame_table.proofs.Rising.{rises_none, rises_on}
use Rattle.backend_pass.specs.Passes.{KeepsCallers, KeepsCalls, KeepsPass, PassState}
use Rattle.backend_pass.proofs.CountedWrites.{counted_none, counted_on}

pub pass_none : (p : PassState) → KeepsPass p p
pass_none p = record {
  table = refl;
  id = refl;
  own = refl;
  number = refl;
  next = refl;
  joined = refl;
  kept = refl;
  advances = rises_none p.view;
}

pub pass_on : (p q r : PassState) → KeepsPass p q → KeepsPass q r → KeepsPass p r
pass_on p q r a b = record {
  table = b.table ∙ a.table;
  id = b.id ∙ a.id;
  own = b.own ∙ a.own;
  number = b.number ∙ a.number;
  next = b.next ∙ a.next;
  joined = b.joined ∙ a.joined;
  kept = b.kept ∙ a.kept;
  advances = rises_on p.view q.view r.view a.advances b.advances;
}

pub calls_on : (p q r : PassState) → KeepsCalls p q → KeepsCalls q r → KeepsCalls p r
calls_on p q r a b = record {
  calls = b.calls ∙ a.calls;
  front = b.front ∙ a.front;
  place_loads = b.place_loads ∙ a.place_loads;
}

pub callers_none : (p : PassState) → KeepsCallers p p
callers_none p = record { keeps = pass_none p; tokens = refl; locks = λ f. refl; census = refl; calls = record { calls = refl; front = refl; place_loads = refl }; torn = refl; unentered = refl; lookups = record { hint = refl; turns = refl; stores = refl; queue = refl; ticks = refl }; io = counted_none p p refl refl refl }

pub callers_on : (p q r : PassState) → KeepsCallers p q → KeepsCallers q r → KeepsCallers p r
callers_on p q r a b = record {
  keeps = pass_on p q r a.keeps b.keeps;
  tokens = b.tokens ∙ a.tokens;
  locks = λ f. b.locks f ∙ a.locks f;
  census = b.census ∙ a.census;
  calls = calls_on p q r a.calls b.calls;
  torn = b.torn ∙ a.torn;
  unentered = b.unentered ∙ a.unentered;
  lookups = record { hint = b.lookups.hint ∙ a.lookups.hint; turns = b.lookups.turns ∙ a.lookups.turns; stores = b.lookups.stores ∙ a.lookups.stores; queue = b.lookups.queue ∙ a.lookups.queue; ticks = b.lookups.ticks ∙ a.lookups.ticks };
  io = counted_on p q r a.io b.io;
}
