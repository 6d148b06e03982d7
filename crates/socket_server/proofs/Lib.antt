mod SeatLaws
mod FaultLaws
mod RefusalLaws
mod StartLaws
mod AnswerLaws
mod GivenLaws
mod RenewLaws
mod EndLaws
