-- What loads of the counters show.
use Rattle.std.specs.Prelude.{ℕ, ◌+◌, List, [], ◌∷◌, ◌++◌, map}
use Rattle.pin_core.specs.declared.view.LoadedWord.{LoadedWord}
use Rattle.pin_core.specs.declared.view.LoadedWord.TheVariants.{Count}
use Rattle.pin_core.specs.declared.view.View.{View}
use Rattle.pin_core.specs.Kinds.{load_of}
use Rattle.frame_table.specs.WordSteps.{DidWord, load_counter}
use Rattle.io_counts.specs.declared.contexts.ByContext.{ByContext}
use Rattle.io_counts.specs.declared.contexts.ContextCounts.{ContextCounts}

-- the loads of the counters of a context, in their order, which showed this
abbrev pub loads_in : ℕ → ContextCounts → List LoadedWord
loads_in base c =
    Count base c.hits
    ∷ Count (base + 1) c.reads
    ∷ Count (base + 2) c.writes
    ∷ Count (base + 3) c.evictions
    ∷ Count (base + 4) c.reuses
    ∷ []

-- the loads of the counters of all contexts, in their order, which showed this
abbrev pub loads_of : ByContext → List LoadedWord
loads_of io =
    loads_in 0 io.no_ring ++ (loads_in 5 io.bulk_read
    ++ (loads_in 10 io.bulk_write ++ loads_in 15 io.vacuum))

-- a view that has made these loads, one after the other
abbrev pub view_loading : List LoadedWord → View → View
view_loading seen v = record v { loads = v.loads ++ map (load_of v) seen }

-- The counters of a context were loaded one after the other, each in a state that has the law, in
-- which it is the sum of what the backends have added to it
abbrev pub LoadsContext : ℕ → ContextCounts → View → View → Type 0
LoadsContext base c v w =
    (a b d e : View) × DidWord (load_counter base) v a c.hits
    × DidWord (load_counter (base + 1)) a b c.reads
    × DidWord (load_counter (base + 2)) b d c.writes
    × DidWord (load_counter (base + 3)) d e c.evictions
    × DidWord (load_counter (base + 4)) e w c.reuses

-- and those of all contexts
abbrev pub LoadsCounters : ByContext → View → View → Type 0
LoadsCounters io v w =
    (a b d : View) × LoadsContext 0 io.no_ring v a × LoadsContext 5 io.bulk_read a b
    × LoadsContext 10 io.bulk_write b d × LoadsContext 15 io.vacuum d w
