mod Family
