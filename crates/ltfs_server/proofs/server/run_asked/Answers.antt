use Rattle.std.proofs.Common.{inl, inr, refl, arith}
use Rattle.ltfs_server.proofs.Asked.{asked_format, asked_generations, asked_label, asked_list, asked_make, asked_none, asked_plain, asked_serve, asked_view, form_asked, format_asked, generations_asked, given_since, label_asked, list_asked, make_asked, make_few, memory_asked, plain_asked, serve_asked, view_asked}
use Rattle.ltfs_server.proofs.HandedBack.{asked_back}
use Rattle.ltfs_server.proofs.server.run_asked.Goals as goal

pub returns-in-Ok-Plain : goal.returns-in-Ok-Plain
returns-in-Ok-Plain g c =
    asked_back _ _ _ _ g.K.Sink g.D.Drive _ c.args.out _ _ _ c.with_sink.ensures.status c.with_sink.ensures.drive
    c.with_sink.ensures.out c.with_sink.ensures.log
    (plain_asked _ _ _ _ _ g.D.Drive _ _ _ _ c.in-Ok-Plain.at (asked_plain _ _ _ _ c.as_slice.ensures.value c.in-Ok-Plain.field-0-is c.in-Ok-Plain.ensures) c.run_plain-told.ensures)

pub returns-in-Ok-Label : goal.returns-in-Ok-Label
returns-in-Ok-Label g c =
    asked_back _ _ _ _ g.K.Sink g.D.Drive _ c.args.out _ _ _ c.with_sink-in-Ok-Label.ensures.status c.with_sink-in-Ok-Label.ensures.drive
    c.with_sink-in-Ok-Label.ensures.out c.with_sink-in-Ok-Label.ensures.log
    (label_asked _ _ _ _ _ g.D.Drive _ _ _ _ (asked_label _ _ _ c.as_slice.ensures.value c.in-Ok-Label.field-0-is c.in-Ok-Label.ensures)
    (record { left = refl; faults = refl }) c.run_label.ensures)

pub returns-in-Ok-List : goal.returns-in-Ok-List
returns-in-Ok-List g c =
    asked_back _ _ _ _ g.K.Sink g.D.Drive _ c.args.out _ _ _ c.with_sink-in-Ok-List.ensures.status c.with_sink-in-Ok-List.ensures.drive
    c.with_sink-in-Ok-List.ensures.out c.with_sink-in-Ok-List.ensures.log
    (list_asked _ _ _ _ _ g.D.Drive _ _ _ _ c.in-Ok-List.all (asked_list _ _ _ c.in-Ok-List.all c.as_slice.ensures.value c.in-Ok-List.field-0-is c.in-Ok-List.ensures)
    (record { left = refl; faults = refl }) c.run_list.ensures)

pub returns-in-Ok-Generations : goal.returns-in-Ok-Generations
returns-in-Ok-Generations g c =
    asked_back _ _ _ _ g.K.Sink g.D.Drive _ c.args.out _ _ _ c.with_sink-in-Ok-Generations.ensures.status c.with_sink-in-Ok-Generations.ensures.drive
    c.with_sink-in-Ok-Generations.ensures.out c.with_sink-in-Ok-Generations.ensures.log
    (generations_asked _ _ _ _ _ g.D.Drive _ _ _ _ (asked_generations _ _ _ c.as_slice.ensures.value c.in-Ok-Generations.field-0-is c.in-Ok-Generations.ensures)
    (record { left = refl; faults = refl }) c.run_generations.ensures)

pub returns-in-Ok-View : goal.returns-in-Ok-View
returns-in-Ok-View g c =
    asked_back _ _ _ _ g.K.Sink g.D.Drive _ c.args.out _ _ _ c.with_sink-in-Ok-View.ensures.status c.with_sink-in-Ok-View.ensures.drive
    c.with_sink-in-Ok-View.ensures.out c.with_sink-in-Ok-View.ensures.log
    (view_asked _ _ _ _ _ g.D.Drive _ _ _ _ c.in-Ok-View.asked (asked_view _ _ _ c.in-Ok-View.asked c.as_slice.ensures.value c.in-Ok-View.field-0-is c.in-Ok-View.ensures)
    (record { left = refl; faults = refl }) c.run_view.ensures)

pub run_format-told-requires-clause-fine : goal.run_format-told-requires-clause-fine
run_format-told-requires-clause-fine g c =
    (asked_format _ _ _ c.in-Ok-Format.asked c.as_slice.ensures.value c.in-Ok-Format.field-0-is c.in-Ok-Format.ensures).3.fine

pub run_format-told-requires-clause-all : goal.run_format-told-requires-clause-all
run_format-told-requires-clause-all g c =
    c.requires.formats c.in-Ok-Format.asked
    (asked_format _ _ _ c.in-Ok-Format.asked c.as_slice.ensures.value c.in-Ok-Format.field-0-is c.in-Ok-Format.ensures)

pub returns-in-Ok-Format : goal.returns-in-Ok-Format
returns-in-Ok-Format g c =
    asked_back _ _ _ _ g.K.Sink g.D.Drive _ c.args.out _ _ _ c.with_sink-in-Ok-Format.ensures.status c.with_sink-in-Ok-Format.ensures.drive
    c.with_sink-in-Ok-Format.ensures.out c.with_sink-in-Ok-Format.ensures.log
    (format_asked _ _ _ _ _ g.D.Drive _ _ _ _ c.in-Ok-Format.asked (asked_format _ _ _ c.in-Ok-Format.asked c.as_slice.ensures.value c.in-Ok-Format.field-0-is c.in-Ok-Format.ensures)
    (record { left = refl; faults = refl }) c.run_format-told.ensures)

pub run_serve-requires-clause-since : goal.run_serve-requires-clause-since
run_serve-requires-clause-since g c κs within =
    given_since _ c.in-Ok-Serve.at (asked_serve _ _ _ c.in-Ok-Serve.at c.as_slice.ensures.value c.in-Ok-Serve.field-0-is c.in-Ok-Serve.ensures).3.moment

pub run_serve-requires-clause-allowed : goal.run_serve-requires-clause-allowed
run_serve-requires-clause-allowed g c κs within =
    c.requires.serves c.in-Ok-Serve.at
    (asked_serve _ _ _ c.in-Ok-Serve.at c.as_slice.ensures.value c.in-Ok-Serve.field-0-is c.in-Ok-Serve.ensures)

pub returns-in-Ok-Serve : goal.returns-in-Ok-Serve
returns-in-Ok-Serve g c =
    serve_asked _ _ _ _ _ g.D.Drive _ _ _ _ c.in-Ok-Serve.at (asked_serve _ _ _ _ c.as_slice.ensures.value c.in-Ok-Serve.field-0-is c.in-Ok-Serve.ensures) c.run_serve.ensures

pub run_make-requires-clause-few : goal.run_make-requires-clause-few
run_make-requires-clause-few g c κs within =
    make_few _ c.in-Ok-Make.count c.in-Ok-Make.at (asked_make _ _ _ c.in-Ok-Make.count c.in-Ok-Make.at c.as_slice.ensures.value c.in-Ok-Make.field-0-is c.in-Ok-Make.ensures)

pub run_make-requires-clause-since : goal.run_make-requires-clause-since
run_make-requires-clause-since g c κs within =
    given_since _ c.in-Ok-Make.at (asked_make _ _ _ c.in-Ok-Make.count c.in-Ok-Make.at c.as_slice.ensures.value c.in-Ok-Make.field-0-is c.in-Ok-Make.ensures).3.moment

pub run_make-requires-clause-allowed : goal.run_make-requires-clause-allowed
run_make-requires-clause-allowed g c κs within =
    c.requires.makes c.in-Ok-Make.count c.in-Ok-Make.at
    (asked_make _ _ _ c.in-Ok-Make.count c.in-Ok-Make.at c.as_slice.ensures.value c.in-Ok-Make.field-0-is c.in-Ok-Make.ensures)

pub returns-in-Ok-Make : goal.returns-in-Ok-Make
returns-in-Ok-Make g c =
    make_asked _ _ _ _ _ g.D.Drive _ _ _ _ c.in-Ok-Make.count c.in-Ok-Make.at
    (asked_make _ _ _ c.in-Ok-Make.count c.in-Ok-Make.at c.as_slice.ensures.value c.in-Ok-Make.field-0-is c.in-Ok-Make.ensures)
    (record { left = refl; faults = refl }) c.run_make.ensures

pub returns-in-Err-Form : goal.returns-in-Err-Form
returns-in-Err-Form g c =
    form_asked _ _ _ _ _ g.D.Drive _ _ _ _ (asked_none _ _ _ c.as_slice.ensures.value c.in-Err-Form.field-0-is c.in-Err-Form.ensures)
    (record { left = refl; faults = refl }) c.tell_alone.ensures.drive c.tell_alone.ensures.log c.tell_alone.ensures.told

pub returns : goal.returns
returns g c =
    memory_asked _ _ _ _ _ g.D.Drive _ _ _ _ (record { left = refl; faults = refl }) c.tell_alone-in-Err-NoMemory.ensures.drive
    (omega (arith, c.commands-commands_are_in_range.ensures)) c.tell_alone-in-Err-NoMemory.ensures.log c.tell_alone-in-Err-NoMemory.ensures.told

pub run_list-requires : goal.run_list-requires
run_list-requires g c =
    record { honest = c.requires.honest (inl (c.in-Ok-List.all, asked_list _ _ _ c.in-Ok-List.all c.as_slice.ensures.value c.in-Ok-List.field-0-is c.in-Ok-List.ensures)) }

pub run_serve-requires-clause-honest : goal.run_serve-requires-clause-honest
run_serve-requires-clause-honest g c κs within =
    c.requires.honest (inr (inl (c.in-Ok-Serve.at, asked_serve _ _ _ c.in-Ok-Serve.at c.as_slice.ensures.value c.in-Ok-Serve.field-0-is c.in-Ok-Serve.ensures)))

pub run_make-requires-clause-honest : goal.run_make-requires-clause-honest
run_make-requires-clause-honest g c κs within =
    c.requires.honest
    (inr (inr (c.in-Ok-Make.count, c.in-Ok-Make.at, asked_make _ _ _ c.in-Ok-Make.count c.in-Ok-Make.at c.as_slice.ensures.value c.in-Ok-Make.field-0-is c.in-Ok-Make.ensures)))
