-- What a crash may leave is what two cuts give, or gave before the failed writes that nothing has succeeded after.
use Rattle.std.proofs.Common.{ℕ, ◌-◌, ◌<◌, ◌≡◌, ◌⊎◌, ⊎_elim, inl, inr, Bool, true, false, List, [], ◌∷◌, ◌++◌, refl, sym, ◌∙◌, ap, subst}
use Rattle.tape_types.specs.declared.cartridges.Part.{Part}
use Rattle.tape_types.specs.declared.cartridges.Part.TheVariants.{Ip, Dp}
use Rattle.tape_types.specs.declared.cartridges.Item.{Item}
use Rattle.tape_types.specs.declared.cartridges.Note.{Note}
use Rattle.tape_types.specs.declared.cartridges.Cartridge.{Cartridge}
use Rattle.tape_drive.specs.declared.record.Act.{Act}
use Rattle.tape_drive.specs.declared.record.Act.TheVariants.{Put, Flushed, Noted, Settled}
use Rattle.tape_drive.specs.declared.record.DoneCommand.{DoneCommand}
use Rattle.tape_drive.specs.declared.crash.Cut.{Cut}
use Rattle.tape_drive.specs.Commands.{IsNoted}
use Rattle.tape_drive.specs.Crashes.{HasState}
use Rattle.tape_drive.specs.Placed.{reads_as}
use Rattle.tape_drive.specs.Record.{front, with_note, undo, IsStage, DuringPut, During, Settles, Leaves}
use Rattle.tape_drive.specs.Images.{is_same, moments, undone, crash_image, Gives, IsFailure, Gave}
use Rattle.tape_drive.proofs.Stood.{OwnStage, StoodBy, Stood, stood_now, image_in, image_from}

-- each partition of an image has stood, and the rest is as it reads
pub record IsPast (held : Cartridge) (es : List DoneCommand) (image : Cartridge) : Type 0 where
  pub ip : Stood Ip held.ip es image.ip
  pub dp : Stood Dp held.dp es image.dp
  pub state : HasState held image

-- of an image that two cuts give, each partition has stood so
pub gives_past : (held : Cartridge) (es : List DoneCommand) (image : Cartridge) → Gives held es image → IsPast held es image
gives_past held es image h =
    let ip = h.0 in
    let dp = h.1 in
    let is = h.4 in
    subst (λ (c : Cartridge). IsPast held es c) (sym is) (record {
      ip = image_in Ip held.ip es ip.moment ip.torn h.2;
      dp = image_in Dp held.dp es dp.moment dp.torn h.3;
      state = record { vcr = refl; note_ip = refl; note_dp = refl };
    })

-- two cartridges with the same items, reference and notes are one
pub same_cartridge : (c d : Cartridge) → c.ip ≡ d.ip → c.dp ≡ d.dp → c.vcr ≡ d.vcr → c.note_ip ≡ d.note_ip → c.note_dp ≡ d.note_dp → c ≡ d
same_cartridge c d ip dp vcr n m =
    ap (λ (l : List Item). reads_as l c.dp c.vcr c.note_ip c.note_dp) ip
    ∙ ap (λ (l : List Item). reads_as d.ip l c.vcr c.note_ip c.note_dp) dp
    ∙ ap (λ (k : ℕ). reads_as d.ip d.dp k c.note_ip c.note_dp) vcr
    ∙ ap (λ (k : Note). reads_as d.ip d.dp d.vcr k c.note_dp) n
    ∙ ap (λ (k : Note). reads_as d.ip d.dp d.vcr d.note_ip k) m

-- an image of which each partition has stood so is one that two cuts give
pub past_gives : (held : Cartridge) (es : List DoneCommand) (image : Cartridge) → IsPast held es image → Gives held es image
past_gives held es image past =
    let ip = image_from Ip held.ip es image.ip past.ip in
    let dp = image_from Dp held.dp es image.dp past.dp in
    let cut_ip : Cut = record { moment = ip.0; torn = ip.1 } in
    let cut_dp : Cut = record { moment = dp.0; torn = dp.1 } in
    (cut_ip, cut_dp, ip.2, dp.2, same_cartridge image (crash_image held es cut_ip cut_dp) ip.3 dp.3 past.state.vcr past.state.note_ip past.state.note_dp)

-- the parts of the cartridge from before an act
pub undone_ip : (act : Act) (c : Cartridge) → (undo act c).ip ≡ undone Ip act c.ip
undone_ip (Put Ip gone failed) c = refl
undone_ip (Put Dp gone failed) c = refl
undone_ip Flushed c = refl
undone_ip (Noted Ip n) c = refl
undone_ip (Noted Dp n) c = refl
undone_ip Settled c = refl

-- undoing an act undoes it in the data partition
pub undone_dp : (act : Act) (c : Cartridge) → (undo act c).dp ≡ undone Dp act c.dp
undone_dp (Put Ip gone failed) c = refl
undone_dp (Put Dp gone failed) c = refl
undone_dp Flushed c = refl
undone_dp (Noted Ip n) c = refl
undone_dp (Noted Dp n) c = refl
undone_dp Settled c = refl

-- the present cartridge
now_past : (held : Cartridge) (es : List DoneCommand) → IsPast held es held
now_past held es = record { ip = stood_now Ip held.ip es; dp = stood_now Dp held.dp es; state = record { vcr = refl; note_ip = refl; note_dp = refl } }

-- what has stood, a crash may leave: by an act, from what stood before it
settles_put : (failed : Bool) (part : Part) (gone : List Item) (held image : Cartridge) → HasState held image → Settles (Put part gone failed) held image
settles_put true part gone held image state = tt
settles_put false part gone held image state = state

left_by : (act : Act) (held : Cartridge) (es : List DoneCommand) (image : Cartridge) → StoodBy Ip act held.ip image.ip (Stood Ip (undone Ip act held.ip) es image.ip)
    → StoodBy Dp act held.dp image.dp (Stood Dp (undone Dp act held.dp) es image.dp) → HasState held image → ((c : Cartridge) → IsPast (undo act held) es c → Leaves (undo act held) es c)
    → Settles act held image × ((before : Cartridge) × Leaves (undo act held) es before × During act held before image)
left_by (Put Ip gone failed) held es image (inl stage) dp state ih = (
  settles_put failed Ip gone held image state,
  (
    reads_as (front held.ip ++ gone) image.dp (held.vcr - 1) held.note_ip held.note_dp,
    ih (reads_as (front held.ip ++ gone) image.dp (held.vcr - 1) held.note_ip held.note_dp)
        (record { ip = stood_now Ip (front held.ip ++ gone) es; dp = dp; state = record { vcr = refl; note_ip = refl; note_dp = refl } }),
    record { items = inr (stage, state.vcr); rest = record { other_part = refl; note_ip = state.note_ip; note_dp = state.note_dp } },
  ),
)
left_by (Put Ip gone failed) held es image (inr ip) dp state ih = (
  settles_put failed Ip gone held image state,
  (
    reads_as image.ip image.dp (held.vcr - 1) held.note_ip held.note_dp,
    ih (reads_as image.ip image.dp (held.vcr - 1) held.note_ip held.note_dp) (record { ip = ip; dp = dp; state = record { vcr = refl; note_ip = refl; note_dp = refl } }),
    record { items = inl (refl, inr state.vcr); rest = record { other_part = refl; note_ip = state.note_ip; note_dp = state.note_dp } },
  ),
)
left_by (Put Dp gone failed) held es image ip (inl stage) state ih = (
  settles_put failed Dp gone held image state,
  (
    reads_as image.ip (front held.dp ++ gone) (held.vcr - 1) held.note_ip held.note_dp,
    ih (reads_as image.ip (front held.dp ++ gone) (held.vcr - 1) held.note_ip held.note_dp)
        (record { ip = ip; dp = stood_now Dp (front held.dp ++ gone) es; state = record { vcr = refl; note_ip = refl; note_dp = refl } }),
    record { items = inr (stage, state.vcr); rest = record { other_part = refl; note_ip = state.note_ip; note_dp = state.note_dp } },
  ),
)
left_by (Put Dp gone failed) held es image ip (inr dp) state ih = (
  settles_put failed Dp gone held image state,
  (
    reads_as image.ip image.dp (held.vcr - 1) held.note_ip held.note_dp,
    ih (reads_as image.ip image.dp (held.vcr - 1) held.note_ip held.note_dp) (record { ip = ip; dp = dp; state = record { vcr = refl; note_ip = refl; note_dp = refl } }),
    record { items = inl (refl, inr state.vcr); rest = record { other_part = refl; note_ip = state.note_ip; note_dp = state.note_dp } },
  ),
)
left_by Flushed held es image ip dp state ih =
    let is : image ≡ held = same_cartridge image held ip dp state.vcr state.note_ip state.note_dp in
    (is, (image, subst (λ (c : Cartridge). Leaves held es c) (sym is) (ih held (now_past held es)), refl))
left_by (Noted Ip n) held es image ip dp state ih = (
  state,
  (
    reads_as image.ip image.dp held.vcr n held.note_dp,
    ih (reads_as image.ip image.dp held.vcr n held.note_dp) (record { ip = ip; dp = dp; state = record { vcr = refl; note_ip = refl; note_dp = refl } }),
    inr (record { ip = refl; dp = refl; vcr = state.vcr; other_note = state.note_dp; written = state.note_ip }),
  ),
)
left_by (Noted Dp n) held es image ip dp state ih = (
  state,
  (
    reads_as image.ip image.dp held.vcr held.note_ip n,
    ih (reads_as image.ip image.dp held.vcr held.note_ip n) (record { ip = ip; dp = dp; state = record { vcr = refl; note_ip = refl; note_dp = refl } }),
    inr (record { ip = refl; dp = refl; vcr = state.vcr; other_note = state.note_ip; written = state.note_dp }),
  ),
)
left_by Settled held es image ip dp state ih = (state, (image, ih image (record { ip = ip; dp = dp; state = state }), refl))

-- an image of which each partition has stood so is one that a crash may leave
pub past_left : (held : Cartridge) (es : List DoneCommand) (image : Cartridge) → IsPast held es image → Leaves held es image
past_left held [] image past = same_cartridge image held past.ip past.dp past.state.vcr past.state.note_ip past.state.note_dp
past_left held (e ∷ es) image past = left_by e.act held es image past.ip past.dp past.state (λ (c : Cartridge) (h : IsPast (undo e.act held) es c). past_left (undo e.act held) es c h)

-- the same, or so before the failed writes that nothing has succeeded after
abbrev pub WasPast : Cartridge → List DoneCommand → Cartridge → Type 0
WasPast held [] image = IsPast held [] image
WasPast held (e ∷ es) image = IsPast held (e ∷ es) image ⊎ (IsFailure e.act × WasPast (undo e.act held) es image)

-- a failed write hides nothing of what stood before it
behind_own : (b : Bool) (items x : List Item) (E : Type 0) → E → OwnStage b items x E
behind_own true items x E h = inr h
behind_own false items x E h = h

behind : (part : Part) (act : Act) (items x : List Item) (E : Type 0) → IsFailure act → E → StoodBy part act items x E
behind part (Put p gone failed) items x E fail h = behind_own (is_same part p) items x E h
behind part Flushed items x E fail h = absurd fail
behind part (Noted p n) items x E fail h = absurd fail
behind part Settled items x E fail h = absurd fail

was_ip : (held : Cartridge) (es : List DoneCommand) (image : Cartridge) → WasPast held es image → Stood Ip held.ip es image.ip
was_ip held [] image past = past.ip
was_ip held (e ∷ es) image (inl past) = past.ip
was_ip held (e ∷ es) image (inr earlier) =
    behind Ip e.act held.ip image.ip (Stood Ip (undone Ip e.act held.ip) es image.ip) earlier.0 (subst (λ (l : List Item). Stood Ip l es image.ip) (undone_ip e.act held) (was_ip (undo e.act held) es image earlier.1))

was_dp : (held : Cartridge) (es : List DoneCommand) (image : Cartridge) → WasPast held es image → Stood Dp held.dp es image.dp
was_dp held [] image past = past.dp
was_dp held (e ∷ es) image (inl past) = past.dp
was_dp held (e ∷ es) image (inr earlier) =
    behind Dp e.act held.dp image.dp (Stood Dp (undone Dp e.act held.dp) es image.dp) earlier.0 (subst (λ (l : List Item). Stood Dp l es image.dp) (undone_dp e.act held) (was_dp (undo e.act held) es image earlier.1))

record SameNotes (a b : Cartridge) : Type 0 where
  ip : a.note_ip ≡ b.note_ip
  dp : a.note_dp ≡ b.note_dp

failed_notes : (act : Act) (c : Cartridge) → IsFailure act → SameNotes (undo act c) c
failed_notes (Put Ip gone failed) c fail = record { ip = refl; dp = refl }
failed_notes (Put Dp gone failed) c fail = record { ip = refl; dp = refl }
failed_notes Flushed c fail = absurd fail
failed_notes (Noted p n) c fail = absurd fail
failed_notes Settled c fail = absurd fail

was_notes : (held : Cartridge) (es : List DoneCommand) (image : Cartridge) → WasPast held es image → SameNotes image held
was_notes held [] image past = record { ip = past.state.note_ip; dp = past.state.note_dp }
was_notes held (e ∷ es) image (inl past) = record { ip = past.state.note_ip; dp = past.state.note_dp }
was_notes held (e ∷ es) image (inr earlier) =
    let same = was_notes (undo e.act held) es image earlier.1 in
    let put = failed_notes e.act held earlier.0 in
    record { ip = same.ip ∙ put.ip; dp = same.dp ∙ put.dp }

-- a write that has ended, by what it may have left: the image as it was before, or as the write shows
put_same : (failed : Bool) (part : Part) (gone : List Item) (held : Cartridge) (es : List DoneCommand) (number : ℕ) (before image : Cartridge)
    → Settles (Put part gone failed) held image → WasPast (undo (Put part gone failed) held) es before → image ≡ before
    → (HasState held image → IsPast held (record { number = number; act = Put part gone failed } ∷ es) image)
    → IsPast held (record { number = number; act = Put part gone failed } ∷ es) image ⊎ (IsFailure (Put part gone failed) × WasPast (undo (Put part gone failed) held) es image)
put_same true part gone held es number before image settles was is past = inr (tt, subst (λ (c : Cartridge). WasPast (undo (Put part gone true) held) es c) (sym is) was)
put_same false part gone held es number before image settles was is past = inl (past settles)

-- within a write each partition of an image has stood so, or had before it failed
pub was_put : (part : Part) (gone : List Item) (failed : Bool) (held : Cartridge) (es : List DoneCommand) (number : ℕ) (before image : Cartridge)
    → Settles (Put part gone failed) held image → WasPast (undo (Put part gone failed) held) es before → DuringPut part held before image
    → IsPast held (record { number = number; act = Put part gone failed } ∷ es) image ⊎ (IsFailure (Put part gone failed) × WasPast (undo (Put part gone failed) held) es image)
was_put Ip gone failed held es number before image settles was during =
    let ip = was_ip (undo (Put Ip gone failed) held) es before was in
    let dp = subst (λ (l : List Item). Stood Dp held.dp es l) (sym during.rest.other_part) (was_dp (undo (Put Ip gone failed) held) es before was) in
    let notes = was_notes (undo (Put Ip gone failed) held) es before was in
    let state : image.vcr ≡ held.vcr → HasState held image =
    λ (vcr : image.vcr ≡ held.vcr). record { vcr = vcr; note_ip = during.rest.note_ip ∙ notes.ip; note_dp = during.rest.note_dp ∙ notes.dp } in
    let e : DoneCommand = record { number = number; act = Put Ip gone failed } in
    let old : image.ip ≡ before.ip → HasState held image → IsPast held (e ∷ es) image =
    λ (same : image.ip ≡ before.ip) (s : HasState held image). record { ip = inr (subst (λ (l : List Item). Stood Ip (front held.ip ++ gone) es l) (sym same) ip); dp = dp; state = s } in
    ⊎_elim
    (λ (same : (image.ip ≡ before.ip) × ((image.vcr ≡ before.vcr) ⊎ (image.vcr ≡ held.vcr))). ⊎_elim
    (λ (vcr : image.vcr ≡ before.vcr). put_same failed Ip gone held es number before image settles was
    (same_cartridge image before same.0 during.rest.other_part vcr during.rest.note_ip during.rest.note_dp) (old same.0))
    (λ (vcr : image.vcr ≡ held.vcr). inl (old same.0 (state vcr)))
    same.1)
    (λ (stage : IsStage held.ip image.ip × (image.vcr ≡ held.vcr)). inl (record { ip = inl stage.0; dp = dp; state = state stage.1 }))
    during.items
was_put Dp gone failed held es number before image settles was during =
    let dp = was_dp (undo (Put Dp gone failed) held) es before was in
    let ip = subst (λ (l : List Item). Stood Ip held.ip es l) (sym during.rest.other_part) (was_ip (undo (Put Dp gone failed) held) es before was) in
    let notes = was_notes (undo (Put Dp gone failed) held) es before was in
    let state : image.vcr ≡ held.vcr → HasState held image =
    λ (vcr : image.vcr ≡ held.vcr). record { vcr = vcr; note_ip = during.rest.note_ip ∙ notes.ip; note_dp = during.rest.note_dp ∙ notes.dp } in
    let e : DoneCommand = record { number = number; act = Put Dp gone failed } in
    let old : image.dp ≡ before.dp → HasState held image → IsPast held (e ∷ es) image =
    λ (same : image.dp ≡ before.dp) (s : HasState held image). record { ip = ip; dp = inr (subst (λ (l : List Item). Stood Dp (front held.dp ++ gone) es l) (sym same) dp); state = s } in
    ⊎_elim
    (λ (same : (image.dp ≡ before.dp) × ((image.vcr ≡ before.vcr) ⊎ (image.vcr ≡ held.vcr))). ⊎_elim
    (λ (vcr : image.vcr ≡ before.vcr). put_same failed Dp gone held es number before image settles was
    (same_cartridge image before during.rest.other_part same.0 vcr during.rest.note_ip during.rest.note_dp) (old same.0))
    (λ (vcr : image.vcr ≡ held.vcr). inl (old same.0 (state vcr)))
    same.1)
    (λ (stage : IsStage held.dp image.dp × (image.vcr ≡ held.vcr)). inl (record { ip = ip; dp = inl stage.0; state = state stage.1 }))
    during.items

was_by : (number : ℕ) (act : Act) (held : Cartridge) (es : List DoneCommand) (before image : Cartridge) → Settles act held image → WasPast (undo act held) es before → During act held before image
    → IsPast held (record { number = number; act = act } ∷ es) image ⊎ (IsFailure act × WasPast (undo act held) es image)
was_by number (Put part gone failed) held es before image settles was during = was_put part gone failed held es number before image settles was during
was_by number Flushed held es before image settles was during =
    inl (subst (λ (c : Cartridge). IsPast held (record { number = number; act = Flushed } ∷ es) c) (sym settles) (now_past held (record { number = number; act = Flushed } ∷ es)))
was_by number (Noted Ip n) held es before image settles was during = inl (record {
  ip = ⊎_elim
      (λ (same : image ≡ before). subst (λ (c : Cartridge). Stood Ip held.ip es c.ip) (sym same) (was_ip (with_note Ip n held) es before was))
      (λ (noted : IsNoted Ip held.note_ip before image). subst (λ (l : List Item). Stood Ip held.ip es l) (sym noted.ip) (was_ip (with_note Ip n held) es before was))
      during;
  dp = ⊎_elim
      (λ (same : image ≡ before). subst (λ (c : Cartridge). Stood Dp held.dp es c.dp) (sym same) (was_dp (with_note Ip n held) es before was))
      (λ (noted : IsNoted Ip held.note_ip before image). subst (λ (l : List Item). Stood Dp held.dp es l) (sym noted.dp) (was_dp (with_note Ip n held) es before was))
      during;
  state = settles;
})
was_by number (Noted Dp n) held es before image settles was during = inl (record {
  ip = ⊎_elim
      (λ (same : image ≡ before). subst (λ (c : Cartridge). Stood Ip held.ip es c.ip) (sym same) (was_ip (with_note Dp n held) es before was))
      (λ (noted : IsNoted Dp held.note_dp before image). subst (λ (l : List Item). Stood Ip held.ip es l) (sym noted.ip) (was_ip (with_note Dp n held) es before was))
      during;
  dp = ⊎_elim
      (λ (same : image ≡ before). subst (λ (c : Cartridge). Stood Dp held.dp es c.dp) (sym same) (was_dp (with_note Dp n held) es before was))
      (λ (noted : IsNoted Dp held.note_dp before image). subst (λ (l : List Item). Stood Dp held.dp es l) (sym noted.dp) (was_dp (with_note Dp n held) es before was))
      during;
  state = settles;
})
was_by number Settled held es before image settles was during = inl (record {
  ip = subst (λ (c : Cartridge). Stood Ip held.ip es c.ip) (sym during) (was_ip held es before was);
  dp = subst (λ (c : Cartridge). Stood Dp held.dp es c.dp) (sym during) (was_dp held es before was);
  state = settles;
})

-- of an image that a crash may leave, each partition has stood so, or had before failures
pub left_was : (held : Cartridge) (es : List DoneCommand) (image : Cartridge) → Leaves held es image → WasPast held es image
left_was held [] image is = subst (λ (c : Cartridge). IsPast held [] c) (sym is) (now_past held [])
left_was held (e ∷ es) image left = was_by e.number e.act held es left.1.0 image left.0 (left_was (undo e.act held) es left.1.0 left.1.1) left.1.2

-- a failed write leaves what could be left before it
failed_left : (act : Act) (held : Cartridge) (es : List DoneCommand) (image : Cartridge) → IsFailure act → Leaves (undo act held) es image
    → Settles act held image × ((before : Cartridge) × Leaves (undo act held) es before × During act held before image)
failed_left (Put part gone true) held es image fail left =
    (tt, (image, left, record { items = inl (refl, inl refl); rest = record { other_part = refl; note_ip = refl; note_dp = refl } }))
failed_left (Put part gone false) held es image fail left = absurd fail
failed_left Flushed held es image fail left = absurd fail
failed_left (Noted part n) held es image fail left = absurd fail
failed_left Settled held es image fail left = absurd fail

-- what two cuts give, or gave before failed writes, a crash may leave
pub gave_left : (held : Cartridge) (es : List DoneCommand) (image : Cartridge) → Gave held es image → Leaves held es image
gave_left held [] image gave = past_left held [] image (gives_past held [] image gave)
gave_left held (e ∷ es) image (inl gives) = past_left held (e ∷ es) image (gives_past held (e ∷ es) image gives)
gave_left held (e ∷ es) image (inr earlier) = failed_left e.act held es image earlier.0 (gave_left (undo e.act held) es image earlier.1)

-- an image whose partitions have stood so, or had before failures, two cuts give or gave
pub was_gave : (held : Cartridge) (es : List DoneCommand) (image : Cartridge) → WasPast held es image → Gave held es image
was_gave held [] image past = past_gives held [] image past
was_gave held (e ∷ es) image (inl past) = inl (past_gives held (e ∷ es) image past)
was_gave held (e ∷ es) image (inr earlier) = inr (earlier.0, was_gave (undo e.act held) es image earlier.1)

-- what a crash may leave, two cuts give, or gave before failed writes
pub left_gave : (held : Cartridge) (es : List DoneCommand) (image : Cartridge) → Leaves held es image → Gave held es image
left_gave held es image left = was_gave held es image (left_was held es image left)

-- two cuts give what a crash may leave
pub image_left : (held : Cartridge) (es : List DoneCommand) (ip dp : Cut) → ip.moment < moments es → dp.moment < moments es → Leaves held es (crash_image held es ip dp)
image_left held es ip dp lt_ip lt_dp = past_left held es (crash_image held es ip dp) (gives_past held es (crash_image held es ip dp) (ip, dp, lt_ip, lt_dp, refl))
