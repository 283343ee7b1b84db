use Rattle.std.proofs.lemmas.Option.{IfSome_then}
use Rattle.command_line.specs.Request.{listing, listing_asked}
use Rattle.relation_commands.specs.Answers.{counted_asked, text_asked}
use Rattle.relation_commands.proofs.GivenFiles.{of_none}
use Rattle.relation_commands.proofs.IoLines.{counted_named, counted_nothing}
use Rattle.relation_commands.proofs.Putting.{puts_named, puts_nothing}
use Rattle.relation_commands.proofs.listing_command.list_relation.Goals as goal

pub returns-in-Some-clause-text : goal.returns-in-Some-clause-text
returns-in-Some-clause-text g c =
    of_none (text_asked (listing (listing_asked c.args.request.now)) (g.H.Host.contents c.args.host.now)) _ (λ text. puts_nothing text (g.O.Sink.bytes c.args.out.now) _)

pub returns-in-Some-clause-counted : goal.returns-in-Some-clause-counted
returns-in-Some-clause-counted g c =
    of_none (counted_asked (listing (listing_asked c.args.request.now)) (g.H.Host.contents c.args.host.now)) _ (λ t. counted_nothing t (g.O.Sink.bytes c.args.out.now) _)

pub returns-in-Err-clause-text : goal.returns-in-Err-clause-text
returns-in-Err-clause-text g c =
    of_none (text_asked (listing (listing_asked c.args.request.now)) (g.H.Host.contents c.args.host.now)) _ (λ text. puts_nothing text (g.O.Sink.bytes c.args.out.now) _)

pub returns-in-Err-clause-counted : goal.returns-in-Err-clause-counted
returns-in-Err-clause-counted g c =
    of_none (counted_asked (listing (listing_asked c.args.request.now)) (g.H.Host.contents c.args.host.now)) _ (λ t. counted_nothing t (g.O.Sink.bytes c.args.out.now) _)

pub returns-in-Ok-clause-text : goal.returns-in-Ok-clause-text
returns-in-Ok-clause-text g c =
    rw (← c.in-Ok.ensures.contents)
    (IfSome_then (text_asked (listing (listing_asked c.args.request.now)) (g.H.Host.contents c.relation.new.self)) c.list_opened.ensures.text
    (λ text puts. puts_named text (g.O.Sink.bytes c.args.out.now) (g.O.Sink.bytes c.list_opened.new.out) c.list_opened.result c.map_err.result c.map_err.ensures.variant puts))

pub returns-in-Ok-clause-counted : goal.returns-in-Ok-clause-counted
returns-in-Ok-clause-counted g c =
    rw (← c.in-Ok.ensures.contents)
    (IfSome_then (counted_asked (listing (listing_asked c.args.request.now)) (g.H.Host.contents c.relation.new.self)) c.list_opened.ensures.counted
    (λ t puts. counted_named t (g.O.Sink.bytes c.args.out.now) (g.O.Sink.bytes c.list_opened.new.out) c.list_opened.result c.map_err.result c.map_err.ensures.variant puts))
