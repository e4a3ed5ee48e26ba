use Rattle.std.proofs.Common.{◌≡◌, true, false, sym, ◌∙◌}
use Rattle.ltfs_label.specs.Values.{label_of}
use Rattle.cartridge_meaning.specs.Labels.{HasSomeRecord}
use Rattle.mount_recover.proofs.LabelLemmas.{where_told, given_back, refused}
use Rattle.mount_recover.proofs.labels.read_all.Goals as goal

pub returns-in_err-ip_record-clause-refused : goal.returns-in_err-ip_record-clause-refused
returns-in_err-ip_record-clause-refused g c =
    given_back _ _ _ c.from_residual-in_err-ip_record.ensures.1
    (λ held h. refused held _ _ _ (c.in_err-ip_record.ensures.refused held h) (λ lacks. lacks))

pub returns-in_err-dp_record-clause-refused : goal.returns-in_err-dp_record-clause-refused
returns-in_err-dp_record-clause-refused g c =
    given_back _ _ _ c.from_residual-in_err-dp_record.ensures.1
    (λ held h. refused held _ _ _
    (c.in_err-dp_record.ensures.refused held (c.in_ok-ip_record.ensures.looks.held ∙ h))
    (λ lacks. ((c.in_ok-ip_record.ip_record, c.in_ok-ip_record.ensures.found held h), lacks)))

pub find_label-requires-clause-within : goal.find_label-requires-clause-within
find_label-requires-clause-within g c =
    where_told _ (λ held. HasSomeRecord held.ip) (λ held h. (c.in_ok-ip_record.ip_record, c.in_ok-ip_record.ensures.found held (sym c.in_ok-ip_record.ensures.looks.held ∙ sym c.in_ok-dp_record.ensures.looks.held ∙ h)))

pub returns-in_err-ip-clause-refused : goal.returns-in_err-ip-clause-refused
returns-in_err-ip-clause-refused g c =
    given_back _ _ _ c.from_residual-in_err-ip.ensures.1
    (λ held h. refused held _ _ _
    (c.in_err-ip.ensures.refused held (c.in_ok-dp_record.ensures.looks.held ∙ c.in_ok-ip_record.ensures.looks.held ∙ h))
    (λ lacks. (
      record {
        ip = (c.in_ok-ip_record.ip_record, c.in_ok-ip_record.ensures.found held h);
        dp = (c.in_ok-dp_record.dp_record, c.in_ok-dp_record.ensures.found held (c.in_ok-ip_record.ensures.looks.held ∙ h));
      },
      lacks,
    )))

pub find_label-requires-2-clause-within : goal.find_label-requires-2-clause-within
find_label-requires-2-clause-within g c =
    where_told _ (λ held. HasSomeRecord held.dp) (λ held h. (c.in_ok-dp_record.dp_record, c.in_ok-dp_record.ensures.found held (sym c.in_ok-dp_record.ensures.looks.held ∙ sym c.in_ok-ip.ensures.looks.held ∙ h)))

pub returns-in_err-dp-clause-refused : goal.returns-in_err-dp-clause-refused
returns-in_err-dp-clause-refused g c =
    given_back _ _ _ c.from_residual-in_err-dp.ensures.1
    (λ held h. refused held _ _ _
    (c.in_err-dp.ensures.refused held (c.in_ok-ip.ensures.looks.held ∙ c.in_ok-dp_record.ensures.looks.held ∙ c.in_ok-ip_record.ensures.looks.held ∙ h))
    (λ lacks. (
      record {
        ip = (c.in_ok-ip_record.ip_record, c.in_ok-ip_record.ensures.found held h);
        dp = (c.in_ok-dp_record.dp_record, c.in_ok-dp_record.ensures.found held (c.in_ok-ip_record.ensures.looks.held ∙ h));
      },
      (label_of c.in_ok-ip.ip, c.in_ok-ip.ensures.found held (c.in_ok-dp_record.ensures.looks.held ∙ c.in_ok-ip_record.ensures.looks.held ∙ h)),
      lacks,
    )))

pub returns-then-not-are_of_one_volume-clause-refused : goal.returns-then-not-are_of_one_volume-clause-refused
returns-then-not-are_of_one_volume-clause-refused g c =
    λ held h. record {
      records = record {
        ip = (c.in_ok-ip_record.ip_record, c.in_ok-ip_record.ensures.found held h);
        dp = (c.in_ok-dp_record.dp_record, c.in_ok-dp_record.ensures.found held (c.in_ok-ip_record.ensures.looks.held ∙ h));
      };
      ip = label_of c.in_ok-ip.ip;
      ip_is = c.in_ok-ip.ensures.found held (c.in_ok-dp_record.ensures.looks.held ∙ c.in_ok-ip_record.ensures.looks.held ∙ h);
      dp = label_of c.in_ok-dp.dp;
      dp_is = c.in_ok-dp.ensures.found held (c.in_ok-ip.ensures.looks.held ∙ c.in_ok-dp_record.ensures.looks.held ∙ c.in_ok-ip_record.ensures.looks.held ∙ h);
      differ = λ same. let bad : true ≡ false = sym (c.are_of_one_volume.ensures.1 same) ∙ c.if-not-are_of_one_volume.true in cc bad;
    }
