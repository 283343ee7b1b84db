-- What backends add to the counters of the table, which are numbered by contexts.
use Rattle.std.specs.Prelude.{ℕ, ◌+◌, ◌-◌, nat_lt, List, [], ◌∷◌, ◌++◌, length, if◌then◌else◌}
use Rattle.pin_core.specs.declared.view.Published.{Published}
use Rattle.pin_core.specs.declared.view.View.{View}
use Rattle.history_core.specs.Balances.{added_to}
use Rattle.io_counts.specs.declared.contexts.ByContext.{ByContext}
use Rattle.io_counts.specs.declared.contexts.ContextCounts.{ContextCounts}

-- what a view has added to the counters of a context, which are numbered from `base` on
abbrev pub added_in : ℕ → View → ContextCounts
added_in base v = record {
  hits = added_to base v;
  reads = added_to (base + 1) v;
  writes = added_to (base + 2) v;
  evictions = added_to (base + 3) v;
  reuses = added_to (base + 4) v;
}

-- what it has added to the counters of all contexts
abbrev pub io_added : View → ByContext
io_added v = record {
  no_ring = added_in 0 v;
  bulk_read = added_in 5 v;
  bulk_write = added_in 10 v;
  vacuum = added_in 15 v;
}

-- what the counters of a context have, which are numbered from `base` on
abbrev pub counters_in : ℕ → (ℕ → ℕ) → ContextCounts
counters_in base counter = record {
  hits = counter base;
  reads = counter (base + 1);
  writes = counter (base + 2);
  evictions = counter (base + 3);
  reuses = counter (base + 4);
}

-- what the counters of all contexts have
abbrev pub io_counters : (ℕ → ℕ) → ByContext
io_counters counter = record {
  no_ring = counters_in 0 counter;
  bulk_read = counters_in 5 counter;
  bulk_write = counters_in 10 counter;
  vacuum = counters_in 15 counter;
}

-- the addition to the counter of this number of what was counted past what was published; none, if
-- that is nothing
abbrev pub addition : ℕ → ℕ → ℕ → List Published
addition number published counted =
    if nat_lt published counted
    then record { count = number; more = counted - published } ∷ [] else []

-- the additions to the counters of a context, in their order
abbrev pub additions_in : ℕ → ContextCounts → ContextCounts → List Published
additions_in base published counted =
    addition base published.hits counted.hits
    ++ (addition (base + 1) published.reads counted.reads
    ++ (addition (base + 2) published.writes counted.writes
    ++ (addition (base + 3) published.evictions counted.evictions
    ++ addition (base + 4) published.reuses counted.reuses)))

-- the additions to the counters of all contexts, in their order: one for each count that grew
abbrev pub additions : ByContext → ByContext → List Published
additions published counted =
    additions_in 0 published.no_ring counted.no_ring
    ++ (additions_in 5 published.bulk_read counted.bulk_read
    ++ (additions_in 10 published.bulk_write counted.bulk_write
    ++ additions_in 15 published.vacuum counted.vacuum))

-- a view that has made these additions, each by one step
abbrev pub view_adding : List Published → View → View
view_adding more v = record v { steps = v.steps + length more; published = v.published ++ more }
