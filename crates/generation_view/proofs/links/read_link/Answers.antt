use Rattle.std.proofs.Common.{◌≡◌, ◌∙◌, sym, ap, arith}
use Rattle.cartridge_meaning.specs.Meaning.{ip_end}
use Rattle.tape_types.specs.declared.cartridges.Cartridge.{Cartridge}
use Rattle.volume_scan.specs.declared.content.Construct.{Construct}
use Rattle.mount_recover.specs.Lasts.{HasIndexAt}
use Rattle.mount_recover.proofs.StepLemmas.{at_told, found_after, stops, told_then}
use Rattle.generation_view.proofs.LinkLemmas.{breaks_by, free_by, turned}
use Rattle.generation_view.proofs.links.read_link.Goals as goal

pub read_index_at-requires-clause-known : goal.read_index_at-requires-clause-known
read_index_at-requires-clause-known g c = told_then (g.D.Drive.held c.args.drive.now) c.requires.known (λ held known. known.0)

pub returns-in-Ok : goal.returns-in-Ok
returns-in-Ok g c =
    found_after g.D.Drive c.args.start c.in-Ok.ensures
    (λ held h of. λ newer k ks parts there older.
    c.step_of.ensures.told held k ks (at_told (λ (x : Cartridge). HasIndexAt x.dp c.args.place × (c.args.end_ip ≡ ip_end x)) h c.requires.known).1 there older
    (of newer k ks parts there))
    (λ read. c.step_of.ensures.sound read.0)

pub returns-in-Some : goal.returns-in-Some
returns-in-Some g c =
    turned g.D.Drive c.args.start c.in-Err.ensures
    (λ held h none. λ newer k ks parts there older. (
      ap (λ (p : Construct). p.first) (sym there),
      breaks_by c.args.label.now held k ks c.args.after _ c.in-Err.fault c.in-Some.why (sym c.why_in.ensures ∙ c.in-Some.is) (none newer k ks parts there),
    ))
    tt

pub returns-in-None : goal.returns-in-None
returns-in-None g c =
    stops g.D.Drive c.args.start (omega arith) c.in-Err.ensures
    (λ held h none.
    let known = at_told (λ (x : Cartridge). HasIndexAt x.dp c.args.place × (c.args.end_ip ≡ ip_end x)) h c.requires.known in
    free_by held _ _ _ c.in-Err.fault (sym c.why_in.ensures ∙ c.in-None.is) (none known.0.newer known.0.k known.0.older known.0.parts known.0.place_is))
